-- The row before the end is the last that has the key.
use Rattle.std.proofs.Common.{◌≡◌, Bool, ◌-◌, [], ap, ◌∙◌, sym, subst, map, length, take, refl, vec_len, arith, rules}
use Rattle.std.proofs.lemmas.Bool.{true≢false}
use Rattle.std.specs.List.{filter}
use Rattle.tb_index.specs.Indexes.{end_by}
use Rattle.tb_index.proofs.EndLemmas.{end_by-within, end_of-rows, filter-none, filter-some, filter-to_end}
use Rattle.tb_index.proofs.latest.Latest.last.Goals as goal

pub returns-then-end-eq0-clause-none : goal.returns-then-end-eq0-clause-none
returns-then-end-eq0-clause-none g c =
    let rows = c.self.inside.rows.items in
    let key_of = g.By.KeyOf.key_of in
    let same = g.By.Key.PartialEq.eq in
    let passes : g.row.T.Denot → Bool = λ row. same (key_of row) c.args.key.now in
    let is : rows ≡ c.args.self.now.list = λ i. (c.self.view_is i).list in
    let end : c.end_in-end.result ≡ end_by passes rows =
    c.end_in-end.ensures (map key_of rows) c.self.invariant
    ∙ end_of-rows same key_of c.args.key.now rows in (
      λ none. subst (λ xs. filter passes xs ≡ []) is (filter-none passes rows (sym end ∙ c.if-end-eq0.true)),
      λ none. refl,
    )

pub index-requires : goal.index-requires
index-requires g c =
    let rows = c.self.inside.rows.items in
    let key_of = g.By.KeyOf.key_of in
    let same = g.By.Key.PartialEq.eq in
    let passes : g.row.T.Denot → Bool = λ row. same (key_of row) c.args.key.now in
    let end : c.end_in-end.result ≡ end_by passes rows =
    c.end_in-end.ensures (map key_of rows) c.self.invariant
    ∙ end_of-rows same key_of c.args.key.now rows in
    let long : vec_len c.self.inside.rows ≡ length rows = search rules in
    omega (arith, long, end, end_by-within passes rows, c.if-end-eq0.false)

pub returns-clause-none : goal.returns-clause-none
returns-clause-none g c =
    let rows = c.self.inside.rows.items in
    let key_of = g.By.KeyOf.key_of in
    let same = g.By.Key.PartialEq.eq in
    let passes : g.row.T.Denot → Bool = λ row. same (key_of row) c.args.key.now in
    let is : rows ≡ c.args.self.now.list = λ i. (c.self.view_is i).list in
    let end : c.end_in-end.result ≡ end_by passes rows =
    c.end_in-end.ensures (map key_of rows) c.self.invariant
    ∙ end_of-rows same key_of c.args.key.now rows in (
      λ wrong. absurd (true≢false wrong),
      λ none. absurd (filter-some passes rows c.end_in-end.result c.index.result.now end c.if-end-eq0.false
          c.index.ensures (ap (filter passes) is ∙ none)),
    )

pub returns-clause-some : goal.returns-clause-some
returns-clause-some g c =
    let rows = c.self.inside.rows.items in
    let key_of = g.By.KeyOf.key_of in
    let same = g.By.Key.PartialEq.eq in
    let passes : g.row.T.Denot → Bool = λ row. same (key_of row) c.args.key.now in
    let is : rows ≡ c.args.self.now.list = λ i. (c.self.view_is i).list in
    let end : c.end_in-end.result ≡ end_by passes rows =
    c.end_in-end.ensures (map key_of rows) c.self.invariant
    ∙ end_of-rows same key_of c.args.key.now rows in (
      filter passes (take (c.end_in-end.result - 1) rows),
      ap (filter passes) (sym is)
          ∙ filter-to_end passes rows c.end_in-end.result c.index.result.now end c.if-end-eq0.false c.index.ensures,
    )
