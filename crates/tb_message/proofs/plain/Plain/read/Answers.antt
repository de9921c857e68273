use Rattle.std.proofs.Common.{◌≡◌, [], ◌∷◌, ◌++◌, reverse, Some, None, sym, ap, subst, ◌∙◌, arith}
use Rattle.std.proofs.lemmas.Grind.{common_steps}
use Rattle.std.proofs.lemmas.List.{reverse-append}
use Rattle.json.specs.Token.{Token}
use Rattle.json.specs.Lex.{tokens}
use Rattle.tb_message.specs.Plain.{leaf_data, members_data, IsNext}
use Rattle.tb_message.proofs.PlainLemmas.{IsLeft, IsLeft-opened, IsLeft-member, IsLeft-closed}
use Rattle.tb_message.proofs.plain.Plain.read.Goals as goal

pub members-init : goal.members-init
members-init c =
    let text = c.args.text.now in
    let left = c.next.new.self in
    let opens : tokens text ≡ Token.begin_object ∷ left = grind (arith, common_steps) in
    let empty : c.in_ok-members.members.items ≡ [] = grind (arith, common_steps) in
    subst (λ members. IsLeft text left (members_data (reverse members))) (sym empty) (IsLeft-opened text left opens)

pub members-preserved : goal.members-preserved
members-preserved c =
    let text = c.args.text.now in
    let member = c.in-Some.member in
    let left = c.next_member.new.reader in
    let items = c.members.members.items in
    let found = members_data (reverse items) in
    let is : c.in_ok-member.field-0 ≡ Some member = grind (arith, common_steps) in
    let next = subst (λ m. IsNext c.members.reader m left) is c.in_ok-member.ensures in
    let pushed : c.push.new.self.items ≡ items ++ member ∷ [] = grind (arith, common_steps) in
    let one_more = IsLeft-member text member.name.now next.0 left (leaf_data member.leaf) found
    (subst (λ ts. IsLeft text ts found) next.1 c.members.invariant) next.2 in
    subst (λ members. IsLeft text left (members_data members))
    (sym (ap reverse pushed ∙ reverse-append items (member ∷ []))) one_more

pub returns : goal.returns
returns c =
    let text = c.args.text.now in
    let left = c.next_member.new.reader in
    let found = members_data (reverse c.members.members.items) in
    let is : c.in_ok-member.field-0 ≡ None = grind (arith, common_steps) in
    let next = subst (λ m. IsNext c.members.reader m left) is c.in_ok-member.ensures in
    let over : left ≡ [] = grind (arith, common_steps) in
    IsLeft-closed text found
    (subst (λ ts. IsLeft text ts found) (next ∙ ap (λ ts. Token.end_object ∷ ts) over) c.members.invariant)
