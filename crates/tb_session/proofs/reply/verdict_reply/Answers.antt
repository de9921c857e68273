-- A head, a line and a line feed.
use Rattle.std.proofs.Common.{◌+◌, ◌++◌, length, ap, ◌∙◌}
use Rattle.tb_units.specs.Bytes.{line_feed}
use Rattle.tb_message.specs.Verdicts.{verdict_text}
use Rattle.tb_wire.specs.Replies.{head_text}
use Rattle.tb_session.specs.Replies.{verdict_code}
use Rattle.tb_session.proofs.ReplyLemmas.{line-rendered}
use Rattle.tb_session.proofs.reply.verdict_reply.Goals as goal

pub returns : goal.returns
returns c =
    let said = c.args.verdict.now in
    let size = c.bytes.ensures.bytes ∙ c.verdict_line-line.ensures in
    let head = c.push.ensures ∙ c.bytes-2.ensures.bytes ∙ c.reply_head-head.ensures
    ∙ ap (λ n. head_text n (length c.bytes.result.now + 1) c.args.allow c.args.close) c.verdict_code.ensures.code
    ∙ ap (λ l. head_text (verdict_code said) (length l + 1) c.args.allow c.args.close) size in
    let more = c.push-2.ensures
    ∙ ap (λ l. c.push.new.self ++ l) (c.bytes-3.ensures.bytes ∙ c.verdict_line-line.ensures) in
    line-rendered (verdict_code said) line_feed (verdict_text said) c.args.allow c.args.close _ _ _ head more
    c.push-3.ensures
