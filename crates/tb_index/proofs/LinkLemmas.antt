-- The links of the keys of a list, as it grows and shrinks at its end, and as rows of one key are gone through by them.
use Rattle.std.proofs.Common.{◌≡◌, ℕ, suc, ◌+◌, ◌-◌, ◌<◌, ◌≤◌, map, Bool, true, List, [], ◌∷◌, ◌++◌, inl, inr, length, get_or, take, reverse, refl, sym, ap, ◌∙◌, subst, arith, append-nil}
use Rattle.std.specs.List.{filter}
use Rattle.std.specs.Cmp.{IsEquivalence}
use Rattle.std.proofs.lemmas.Bool.{cases_lt}
use Rattle.std.proofs.lemmas.List.{append_assoc, get_or-map, get_or-take, get_or_default, get_or_append_left, get_or_push, length-map, length-take-le, length_push, reverse-append, take-append-le, take-map, take-take, take_at}
use Rattle.tb_index.specs.Indexes.{end_by, end_of, AreLinks}
use Rattle.tb_index.proofs.EndLemmas.{end_by-within, end_of-rows, end_of-same, end-passes, filter-end, filter-last}

-- no keys have no links
pub AreLinks-nil : {K : Type 0} (same : K → K → Bool) → AreLinks {K = K} same [] []
AreLinks-nil same = record { long = refl; each = λ k key d short. absurd (omega (arith, short)) }

-- one key more
pub AreLinks-push : {K : Type 0} (same : K → K → Bool) (keys : List K) (links : List ℕ) (key : K) (link : ℕ)
    → AreLinks same keys links
    → link ≡ end_of same key keys
    → AreLinks same (keys ++ key ∷ []) (links ++ link ∷ [])
AreLinks-push same keys links key link are is =
    let more : length (keys ++ key ∷ []) ≡ length keys + 1 = length_push keys key in
    let more_links : length (links ++ link ∷ []) ≡ length links + 1 = length_push links link in
    record {
      long = omega (arith, more, more_links, are.long);
      each = λ k e d short.
          elim (cases_lt k (length keys)) [
            | inl below ↦
                get_or_append_left links (link ∷ []) d k (omega (arith, below, are.long))
                ∙ (are.each k e d below
                ∙ sym (ap (λ x. end_of same x (take k (keys ++ key ∷ [])))
                (get_or_append_left keys (key ∷ []) e k below)
                ∙ ap (λ front. end_of same (get_or keys k e) front)
                (take-append-le k keys (key ∷ []) (omega (arith, below)))))
            | inr above ↦
                let end : length keys ≡ k = omega (arith, above, short, more) in
                get_or_push links link d k (are.long ∙ end)
                ∙ (is
                ∙ sym (ap (λ x. end_of same x (take k (keys ++ key ∷ []))) (get_or_push keys key e k end)
                ∙ ap (λ front. end_of same key front) (take_at keys (key ∷ []) k end)))
          ];
    }

-- one key fewer: its link is its end in those that are left
pub AreLinks-pop : {K : Type 0} (same : K → K → Bool) (keys : List K) (links : List ℕ) (key : K) (link : ℕ)
    → AreLinks same (keys ++ key ∷ []) (links ++ link ∷ [])
    → AreLinks same keys links × (end_of same key keys ≡ link)
AreLinks-pop same keys links key link are =
    let more : length (keys ++ key ∷ []) ≡ length keys + 1 = length_push keys key in
    let more_links : length (links ++ link ∷ []) ≡ length links + 1 = length_push links link in
    let long : length links ≡ length keys = omega (arith, more, more_links, are.long) in (
      record {
        long = long;
        each = λ k e d short.
            sym (get_or_append_left links (link ∷ []) d k (omega (arith, short, long)))
            ∙ (are.each k e d (omega (arith, short, more))
            ∙ (ap (λ x. end_of same x (take k (keys ++ key ∷ []))) (get_or_append_left keys (key ∷ []) e k short)
            ∙ ap (λ front. end_of same (get_or keys k e) front)
            (take-append-le k keys (key ∷ []) (omega (arith, short)))));
      },
      sym (sym (get_or_push links link link (length keys) long)
          ∙ (are.each (length keys) key link (omega (arith, more))
          ∙ (ap (λ x. end_of same x (take (length keys) (keys ++ key ∷ [])))
          (get_or_push keys key key (length keys) refl)
          ∙ ap (λ front. end_of same key front) (take_at keys (key ∷ []) (length keys) refl)))),
    )

-- so far rows that pass are found from the last on back to the end, and the one before the end passes
pub record IsFoundTo {X : Type 0} (p : X → Bool) (rows found : List X) (end : ℕ) : Type 0 where
  pub within : end ≤ length rows
  pub passes : (n : ℕ) (d : X) → end ≡ suc n → p (get_or rows n d) ≡ true
  pub rest : filter p rows ≡ filter p (take end rows) ++ reverse found

-- before the first step
pub IsFoundTo-start : {X : Type 0} (p : X → Bool) (rows : List X) (end : ℕ)
    → end ≡ end_by p rows
    → IsFoundTo p rows [] end
IsFoundTo-start p rows end is = record {
  within = subst (λ e. e ≤ length rows) (sym is) (end_by-within p rows);
  passes = λ n d more. end-passes p rows n d (sym is ∙ more);
  rest = filter-end p rows ∙ (ap (λ e. filter p (take e rows)) (sym is) ∙ sym (append-nil (filter p (take end rows))));
}

-- with the next row that passes, and the end in what stands before it
pub IsFoundTo-step : {X : Type 0} (p : X → Bool) (rows found : List X) (end before : ℕ) (row : X)
    → IsFoundTo p rows found end
    → 0 < end
    → row ≡ get_or rows (end - 1) row
    → before ≡ end_by p (take (end - 1) rows)
    → IsFoundTo p rows (found ++ row ∷ []) before
IsFoundTo-step p rows found end before row so_far some is link =
    let n = end - 1 in
    let at : end ≡ suc n = omega arith in
    let short : n < length rows = omega (arith, so_far.within, some) in
    let long : length (take n rows) ≡ n = length-take-le n rows (omega (arith, short)) in
    let few : before ≤ n = omega (arith, link, long, end_by-within p (take n rows)) in
    let passes : p (get_or rows n row) ≡ true = so_far.passes n row at in
    let front : filter p (take n rows) ≡ filter p (take before rows) =
    filter-end p (take n rows)
    ∙ (ap (λ e. filter p (take e (take n rows))) (sym link) ∙ ap (filter p) (take-take before n rows few)) in
    let plus : end ≡ n + 1 = omega arith in
    record {
      within = omega (arith, few, short);
      passes = λ m d more.
          let inside : p (get_or (take n rows) m d) ≡ true = end-passes p (take n rows) m d (sym link ∙ more) in
          ap p (sym (get_or-take n rows m d (omega (arith, few, more)))) ∙ inside;
      rest = so_far.rest
          ∙ (ap (λ e. filter p (take e rows) ++ reverse found) plus
          ∙ (ap (λ xs. xs ++ reverse found) (filter-last p rows n row short passes)
          ∙ (append_assoc (filter p (take n rows)) (get_or rows n row ∷ []) (reverse found)
          ∙ (ap (λ x. filter p (take n rows) ++ x ∷ reverse found) (sym is)
          ∙ (ap (λ xs. xs ++ row ∷ reverse found) front
          ∙ ap (λ xs. filter p (take before rows) ++ xs) (sym (reverse-append found (row ∷ []))))))));
    }

-- at the end all that pass are found, the last of them first
pub IsFoundTo-all : {X : Type 0} (p : X → Bool) (rows found : List X) (end : ℕ)
    → IsFoundTo p rows found end
    → end ≡ 0
    → reverse found ≡ filter p rows
IsFoundTo-all p rows found end so_far none =
    sym (so_far.rest ∙ ap (λ e. filter p (take e rows) ++ reverse found) none)

-- the link of a row that has the key is the key's end before it
pub link-is : {X K : Type 0} (same : K → K → Bool) (key_of : X → K) (key : K)
    (rows : List X) (links : List ℕ) (n link : ℕ) (d : X)
    → IsEquivalence same
    → AreLinks same (map key_of rows) links
    → n < length rows
    → link ≡ get_or links n link
    → same (key_of (get_or rows n d)) key ≡ true
    → link ≡ end_by (λ row. same (key_of row) key) (take n rows)
link-is same key_of key rows links n link d laws are short is has =
    let one = key_of (get_or rows n d) in
    let there : get_or (map key_of rows) n one ≡ one = get_or-map key_of rows n d one short in
    is
    ∙ (are.each n one link (subst (λ m. n < m) (sym (length-map rows key_of)) short)
    ∙ (ap (λ x. end_of same x (take n (map key_of rows))) there
    ∙ (end_of-same laws one key (take n (map key_of rows)) has
    ∙ (ap (λ front. end_of same key front) (take-map key_of n rows)
    ∙ end_of-rows same key_of key (take n rows)))))

-- and where rows are found to an end, the link before it leads to the end that is next
pub next-is : {X K : Type 0} (same : K → K → Bool) (key_of : X → K) (key : K)
    (rows found : List X) (links : List ℕ) (end d : ℕ) (row : X)
    → IsEquivalence same
    → AreLinks same (map key_of rows) links
    → IsFoundTo (λ one. same (key_of one) key) rows found end
    → 0 < end
    → get_or links (end - 1) d ≡ end_by (λ one. same (key_of one) key) (take (end - 1) rows)
next-is same key_of key rows found links end d row laws are so_far some =
    let n = end - 1 in
    let at : end ≡ suc n = omega (arith, some) in
    let short : n < length rows = omega (arith, so_far.within, some) in
    let within : n < length links = omega (arith, short, are.long, length-map rows key_of) in
    link-is same key_of key rows links n (get_or links n d) row laws are short
    (get_or_default links n d (get_or links n d) within)
    (so_far.passes n row at)

-- which is a smaller one
pub next-smaller : {X : Type 0} (p : X → Bool) (rows : List X) (end next : ℕ)
    → end ≤ length rows
    → 0 < end
    → next ≡ end_by p (take (end - 1) rows)
    → next < end
next-smaller p rows end next within some is =
    let long : length (take (end - 1) rows) ≡ end - 1 = length-take-le (end - 1) rows (omega (arith, within)) in
    omega (arith, is, long, some, end_by-within p (take (end - 1) rows))

-- the link of a row leads to the end of its own key before it
pub link-own : {X K : Type 0} (same : K → K → Bool) (key_of : X → K) (rows : List X)
    (links : List ℕ) (n link : ℕ) (d : X)
    → IsEquivalence same
    → AreLinks same (map key_of rows) links
    → n < length rows
    → link ≡ get_or links n link
    → link ≡ end_by (λ row. same (key_of row) (key_of (get_or rows n d))) (take n rows)
link-own same key_of rows links n link d laws are short is =
    let one = key_of (get_or rows n d) in
    link-is same key_of one rows links n link d laws are short is
    (laws.refl one)
