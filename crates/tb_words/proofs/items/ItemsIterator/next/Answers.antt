use Rattle.std.proofs.Common.{◌≡◌, ◌∷◌, ◌∙◌, ap, map, string_bytes, codes, true, false, length, rules, lit<}
use Rattle.std.specs.List.{list_any}
use Rattle.std.specs.Str.{bytes_eq}
use Rattle.tb_words.specs.Items.{is_dashed, is_equals, items_of}
use Rattle.tb_words.proofs.ItemLemmas.{items_of-name, no_equals}
use Rattle.tb_words.proofs.items.ItemsIterator.next.Goals as goal

pub returns-in-None-clause-steps : goal.returns-in-None-clause-steps
returns-in-None-clause-steps c =
    let words : map string_bytes c.args.self.now.words.now
    ≡ c.as_str-word.result.now ∷ map string_bytes c.in_ok-word.words.now = search rules in
    let dashed : is_dashed c.as_str-word.result.now ≡ true = search rules in
    let other : bytes_eq c.as_str-word.result.now (codes "--csv") ≡ false = search rules in
    let plain : list_any is_equals c.as_str-word.result.now ≡ false =
    no_equals _ (c.in-None.ensures.byte (lit< tt) (λ w o found. found)) in
    ap items_of words ∙ items_of-name _ _ dashed other plain ∙ c.with_value.ensures

pub returns-in-None-clause-goes : goal.returns-in-None-clause-goes
returns-in-None-clause-goes c =
    let words : map string_bytes c.args.self.now.words.now
    ≡ c.as_str-word.result.now ∷ map string_bytes c.in_ok-word.words.now = search rules in
    let dashed : is_dashed c.as_str-word.result.now ≡ true = search rules in
    let other : bytes_eq c.as_str-word.result.now (codes "--csv") ≡ false = search rules in
    let plain : list_any is_equals c.as_str-word.result.now ≡ false =
    no_equals _ (c.in-None.ensures.byte (lit< tt) (λ w o found. found)) in
    let shorter = ap length (ap items_of words ∙ items_of-name _ _ dashed other plain ∙ c.with_value.ensures) in
    search rules
