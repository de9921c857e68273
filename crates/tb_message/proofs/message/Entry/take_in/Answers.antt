use Rattle.std.proofs.Common.{◌≡◌, ◌-◌, refl, sym, ap, ℕ, List, ◌++◌, length, arith}
use Rattle.std.proofs.lemmas.List.{length-append, drop_at}
use Rattle.tb_message.specs.Spelling.{spelling_in}
use Rattle.tb_message.proofs.RecordLaws.{taken, not_taken}
use Rattle.tb_message.proofs.message.Entry.take_in.Goals as goal

pub returns-in_default-clause-none : goal.returns-in_default-clause-none
returns-in_default-clause-none c = not_taken c.args.version c.args.bytes.now c.in_default.ensures

pub overflow_sub-result : goal.overflow_sub-result
overflow_sub-result c =
    let entry = c.in-Some.entry in
    let rest = c.entry.new.self.rest.now in
    let is = taken c.args.version c.args.bytes.now entry rest (λ i. omega (arith, c.type_inv.bytes i))
    c.in-Some.ensures in
    rw is.joined (omega (arith, length-append (spelling_in c.args.version entry) rest))

pub returns-clause-found : goal.returns-clause-found
returns-clause-found c =
    let version = c.args.version in
    let entry = c.in-Some.entry in
    let rest = c.entry.new.self.rest.now in
    let is = taken version c.args.bytes.now entry rest (λ i. omega (arith, c.type_inv.bytes i)) c.in-Some.ensures in
    let size : length c.args.bytes.now - length rest ≡ length (spelling_in version entry) =
    rw is.joined (omega (arith, length-append (spelling_in version entry) rest)) in
    let begins = ap (λ (b : List ℕ). spelling_in version entry ++ b)
    (sym (drop_at (spelling_in version entry) rest _ refl)) in
    record { in_range = is.in_range; begins = rw (size, is.joined) begins; whole = size }
