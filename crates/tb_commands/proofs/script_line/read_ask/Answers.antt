use Rattle.std.proofs.Common.{◌<◌, ℕ, List, ap, subst, sym, ◌∙◌, length}
use Rattle.std.proofs.lemmas.Bool.{eqb-true}
use Rattle.std.specs.List.{after_first, before_first, position_or_len}
use Rattle.tb_message.specs.Keys.{key_of}
use Rattle.tb_text_book.specs.Fields.{is_blank}
use Rattle.tb_commands.proofs.ScriptLineLemmas.{SpellsFrom-read, json-shorter, no_first, no_json, no_key_word, no_moment, no_second, not_empty}
use Rattle.tb_commands.proofs.script_line.read_ask.Goals as goal

pub returns-in_err-moment-clause-none : goal.returns-in_err-moment-clause-none
returns-in_err-moment-clause-none c = rw c.from_residual.ensures (no_first c.args.text.now c.in_err-moment.ensures)

pub returns-in_err-key-clause-none : goal.returns-in_err-key-clause-none
returns-in_err-key-clause-none c =
    rw c.from_residual-in_err-key.ensures
    (no_second c.args.text.now (rw c.in_ok-moment.ensures.2 at c.in_err-key.ensures))

pub returns-then-is_empty-clause-none : goal.returns-then-is_empty-clause-none
returns-then-is_empty-clause-none c =
    let rest = c.in_ok-moment.ensures.2 in
    let json = c.in_ok-key.ensures.2 ∙ ap (after_first is_blank) rest in
    no_json c.args.text.now
    (ap length (sym json) ∙ eqb-true (length c.in_ok-key.json.now) 0 (sym c.is_empty.ensures ∙ c.if-is_empty.true))

pub returns-in_err-moment-2-clause-none : goal.returns-in_err-moment-2-clause-none
returns-in_err-moment-2-clause-none c =
    rw c.from_residual-in_err-moment-2.ensures
    (no_moment c.args.text.now (λ moment is. c.in_err-moment-2.ensures.none moment (c.in_ok-moment.ensures.1 ∙ is)))

pub returns-in_err-key-2-clause-none : goal.returns-in_err-key-2-clause-none
returns-in_err-key-2-clause-none c =
    let word = c.in_ok-key.ensures.1 ∙ ap (λ r. before_first is_blank r) c.in_ok-moment.ensures.2 in
    rw c.from_residual-in_err-key-2.ensures
    (no_key_word c.args.text.now (ap key_of (sym word) ∙ sym c.in_err-key-2.ensures))

pub overflow_sub-result : goal.overflow_sub-result
overflow_sub-result c =
    let json = c.in_ok-key.ensures.2 ∙ ap (after_first is_blank) c.in_ok-moment.ensures.2 in
    json-shorter c.args.text.now c.in_ok-key.json.now json

pub returns-clause-read : goal.returns-clause-read
returns-clause-read c =
    let rest = c.in_ok-moment.ensures.2 in
    let json = c.in_ok-key.ensures.2 ∙ ap (after_first is_blank) rest in
    let word = c.in_ok-key.ensures.1 ∙ ap (λ r. before_first is_blank r) rest in
    SpellsFrom-read c.args.text.now c.in_ok-moment-2.moment c.in_ok-key-2.key c.in_ok-key.json.now (record {
      first = c.in_ok-moment.ensures.0;
      moment_is = sym c.in_ok-moment.ensures.1 ∙ c.in_ok-moment-2.ensures.read;
      second = subst (λ (r : List ℕ). position_or_len is_blank r < length r) rest c.in_ok-key.ensures.0;
      key_is = ap key_of (sym word) ∙ sym c.in_ok-key-2.ensures;
      json_is = sym json;
    }) (not_empty c.in_ok-key.json.now (sym c.is_empty.ensures ∙ c.if-is_empty.false)) c.requires
