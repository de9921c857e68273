-- What a pass gains in several steps.
use Rattle.std.proofs.Common.{List, [], ◌++◌, map, ℕ, refl, sym, ap, ◌∙◌, subst, append_assoc}
use Rattle.std.specs.Prelude.{All, Contains}
use Rattle.std.proofs.lemmas.List.{append-nil, map-append}
use Rattle.std.proofs.lemmas.List.Elements.{All-nil, All-append, All-weaker, Contains-append_left, Contains-append_right}
use Rattle.tb_lock.specs.declared.view.Call.{Call}
use Rattle.tb_lock.specs.declared.view.Span.{Span}
use Rattle.tb_lock.specs.declared.view.View.{View}
use Rattle.tb_lock.specs.Meanings.{IsPrefix}
use Rattle.tb_lock.proofs.PrefixLemmas.{prefix-self, prefix-trans}
use Rattle.tb_session.specs.Codes.{Made, call_of, span_of, spelled_all, IsAnswered}
use Rattle.tb_session.specs.Gains.{AreInOrder, Gains, IsTurn, joined, turns_of}
use Rattle.tb_session.proofs.OrderLemmas.{joined-append, joined-turns}

-- no call, and nothing is gained
pub gains-nothing : (v : View) → Gains v v []
gains-nothing v = record {
  mine = sym (append-nil v.mine);
  answered = All-nil (λ (m : Made). IsAnswered v.fixed m.history m.called m.before m.after m.readings);
  begin = All-nil (λ (m : Made). IsPrefix v.seen (spelled_all m.history));
  seen = prefix-self v.seen;
  spans = [];
  had = sym (append-nil v.spans);
  counts = All-nil (λ (m : Made). Contains [] (span_of m));
  turns = [];
  cut = refl;
  each = All-nil IsTurn;
  order = λ earlier is ordered. subst AreInOrder (sym (append-nil earlier)) ordered;
  share = refl;
  fixed = refl;
  opening = refl;
  opening_faults = refl;
}

-- the calls of two steps are gained, one step's behind the other's
pub gains-then : (a b c : View) (first later : List Made) → Gains a b first → Gains b c later
    → Gains a c (first ++ later)
gains-then a b c first later one two = record {
  mine = two.mine
      ∙ (ap (λ (l : List Call). l ++ map call_of later) one.mine
      ∙ (append_assoc a.mine (map call_of first) (map call_of later)
      ∙ ap (λ (l : List Call). a.mine ++ l) (sym (map-append call_of first later))));
  answered = All-append (λ (m : Made). IsAnswered a.fixed m.history m.called m.before m.after m.readings) first later
      one.answered
      (subst (λ (f : List ℕ). All (λ (m : Made). IsAnswered f m.history m.called m.before m.after m.readings) later)
      one.fixed two.answered);
  begin = All-append (λ (m : Made). IsPrefix a.seen (spelled_all m.history)) first later one.begin
      (All-weaker (λ (m : Made). IsPrefix b.seen (spelled_all m.history))
      (λ (m : Made). IsPrefix a.seen (spelled_all m.history))
      (λ m begins. prefix-trans a.seen b.seen (spelled_all m.history) one.seen begins) later two.begin);
  seen = prefix-trans a.seen b.seen c.seen one.seen two.seen;
  spans = one.spans ++ two.spans;
  had = two.had ∙ (ap (λ (l : List Span). l ++ two.spans) one.had ∙ append_assoc a.spans one.spans two.spans);
  counts = All-append (λ (m : Made). Contains (one.spans ++ two.spans) (span_of m)) first later
      (All-weaker (λ (m : Made). Contains one.spans (span_of m))
      (λ (m : Made). Contains (one.spans ++ two.spans) (span_of m))
      (λ m. Contains-append_left one.spans two.spans (span_of m)) first one.counts)
      (All-weaker (λ (m : Made). Contains two.spans (span_of m))
      (λ (m : Made). Contains (one.spans ++ two.spans) (span_of m))
      (λ m. Contains-append_right one.spans two.spans (span_of m)) later two.counts);
  turns = one.turns ++ two.turns;
  cut = ap (λ (l : List Made). l ++ later) one.cut
      ∙ (ap (λ (l : List Made). joined one.turns ++ l) two.cut ∙ sym (joined-append one.turns two.turns));
  each = All-append IsTurn one.turns two.turns one.each two.each;
  order = λ earlier is ordered. subst AreInOrder
      (append_assoc earlier (turns_of one.turns) (turns_of two.turns)
      ∙ ap (λ (l : List (List Call)). earlier ++ l)
      (sym (map-append (λ (turn : List Made). map call_of turn) one.turns two.turns)))
      (two.order (earlier ++ turns_of one.turns)
      (one.mine
      ∙ (ap (λ (l : List Call). l ++ map call_of first) is
      ∙ (ap (λ (l : List Made). joined earlier ++ map call_of l) one.cut
      ∙ (ap (λ (l : List Call). joined earlier ++ l) (sym (joined-turns one.turns))
      ∙ sym (joined-append earlier (turns_of one.turns))))))
      (one.order earlier is ordered));
  share = two.share ∙ one.share;
  fixed = two.fixed ∙ one.fixed;
  opening = two.opening ∙ one.opening;
  opening_faults = two.opening_faults ∙ one.opening_faults;
}
