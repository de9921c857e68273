-- What is read from JSON is in its ranges.
use Rattle.std.proofs.Common.{◌≡◌, true, false, List, [], ◌∷◌, Option, Some, None, refl, ap, subst, cond}
use Rattle.std.specs.Prelude.{Result, Ok, Err, map}
use Rattle.std.specs.Option.{option_and_then, ok_or}
use Rattle.serde_json.specs.Data.{Data}
use Rattle.tb_terms.specs.declared.refusal.Field.{Field}
use Rattle.tb_message.specs.declared.kind.Kind.{Kind}
use Rattle.tb_message.specs.Kinds.{members_of, forms_of}
use Rattle.tb_message.specs.Forms.{Form, Part, is_of, in_range}
use Rattle.tb_message.specs.Spelling.{AreOf}
use Rattle.tb_message.specs.Requests.{part_in, parts_in, body_in, result_map, result_and_then}

-- what is given is in the range of its form
given_fits : (form : Form) (said : Option Part) (at_fault : Field) (part : Part)
    → ok_or (option_and_then (in_range form) said) at_fault ≡ Ok part
    → is_of form part ≡ true
given_fits form None at_fault part e = absurd cc
given_fits form (Some said) at_fault part e =
    elim (is_of form said) as (λ b. is_of form said ≡ b
    → ok_or (cond b (Some said) None) at_fault ≡ Ok part → is_of form part ≡ true) [
      | true ↦ λ fits e. let same : said ≡ part = cc in subst (λ (p : Part). is_of form p ≡ true) same fits
      | false ↦ λ _ e. absurd cc
    ] refl e

-- what a member says is in the range of its form
pub part_in-fits : (d : Data) (member : Field × Form) (part : Part)
    → part_in d member ≡ Ok part
    → is_of member.1 part ≡ true
unfolding part_in
part_in-fits d member part e = given_fits member.1 _ member.0 part e

-- two steps that gave something
record AreGiven (first : Result Part Field) (others : Result (List Part) Field) (parts : List Part) : Type 0 where
  part : Part
  rest : List Part
  first_is : first ≡ Ok part
  others_are : others ≡ Ok rest
  joined : part ∷ rest ≡ parts

-- and no other way
steps_given : (first : Result Part Field) (others : Result (List Part) Field) (parts : List Part)
    → result_and_then (λ part. result_map (λ parts. part ∷ parts) others) first ≡ Ok parts
    → AreGiven first others parts
steps_given (Ok part) (Ok rest) parts e =
    record { part = part; rest = rest; first_is = refl; others_are = refl; joined = cc }
steps_given (Ok part) (Err at_fault) parts e = absurd cc
steps_given (Err at_fault) others parts e = absurd cc

-- what all members say is in the ranges of their forms
pub parts_in-fit : (d : Data) (members : List (Field × Form)) (parts : List Part)
    → parts_in d members ≡ Ok parts
    → AreOf (map (λ member. member.1) members) parts
parts_in-fit d [] [] e = tt
parts_in-fit d [] (part ∷ parts) e = absurd cc
parts_in-fit d (member ∷ members) parts e =
    let given = steps_given (part_in d member) (parts_in d members) parts e in
    subst (AreOf (map (λ member. member.1) (member ∷ members))) given.joined
    (part_in-fits d member given.part given.first_is, parts_in-fit d members given.rest given.others_are)

-- what the body of a message says is in its ranges
pub body_in-fits : (d : Data) (kind said : Kind) (parts : List Part)
    → body_in d kind ≡ Ok (said, parts)
    → AreOf (forms_of said) parts
body_in-fits d kind said parts e =
    let given = body_given (parts_in d (members_of kind)) kind said parts e in
    subst (λ (k : Kind). AreOf (forms_of k) parts) given.0 (parts_in-fit d (members_of kind) parts given.1)
  where
    -- the kind is the one that was read for, and its parts were read
    body_given : (r : Result (List Part) Field) (kind said : Kind) (parts : List Part)
        → result_map {U = Kind × List Part} (λ parts. (kind, parts)) r ≡ Ok (said, parts)
        → (kind ≡ said) × (r ≡ Ok parts)
    body_given (Ok given) kind said parts e =
        let same : (kind, given) ≡ (said, parts) = cc in
        (ap (λ (x : Kind × List Part). x.0) same, ap (λ (x : Kind × List Part). Ok x.1) same)
    body_given (Err at_fault) kind said parts e = absurd cc
