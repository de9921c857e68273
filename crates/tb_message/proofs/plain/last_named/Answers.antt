use Rattle.std.proofs.Common.{◌≡◌, suc, ◌-◌, ◌<◌, true, false, [], length, get_or, bytes_eq, sym, ◌∙◌, arith}
use Rattle.std.proofs.lemmas.Slice.Eq.{bytes_eq-Decides}
use Rattle.tb_message.specs.declared.plain.Leaf.TheVariants.{Text}
use Rattle.tb_message.specs.declared.plain.Member.{Member}
use Rattle.tb_message.proofs.PlainLemmas.{get_member-passed, get_member-found}
use Rattle.tb_message.proofs.plain.last_named.Goals as goal

-- what stands for a member past the end
abbrev none : Member
none = record {
  name = record { ref_ptr = (0, 0); now = [] };
  leaf = Text (record { ref_ptr = (0, 0); now = [] });
}

pub returns-then-eq : goal.returns-then-eq
returns-then-eq c =
    let name = c.args.name.now in
    let members = c.args.members.now in
    let left = c.loop-left.left in
    let within : left - 1 < length members = omega arith in
    let one_more : left ≡ suc (left - 1) = omega arith in
    let tested : bytes_eq (get_or members (left - 1) none).name.now name ≡ true = grind arith in
    let same = (bytes_eq-Decides (get_or members (left - 1) none).name.now name).0 tested in
    sym (c.loop-left.invariant.none_behind
    ∙ get_member-found name members (left - 1) left none one_more within (sym same))

pub loop-left-preserved : goal.loop-left-preserved
loop-left-preserved c =
    let name = c.args.name.now in
    let members = c.args.members.now in
    let left = c.loop-left.left in
    let inside : left - 1 < length members = omega arith in
    let one_more : left ≡ suc (left - 1) = omega arith in
    let tested : bytes_eq (get_or members (left - 1) none).name.now name ≡ false = grind arith in
    record {
      within = omega arith;
      none_behind =
          c.loop-left.invariant.none_behind
          ∙ get_member-passed name members (left - 1) left none one_more inside
          (λ same. let equal = (bytes_eq-Decides (get_or members (left - 1) none).name.now name).1 (sym same) in cc);
    }
