use Rattle.std.proofs.Common.{ℕ, List, ◌++◌, ap, ◌∙◌, codes}
use Rattle.std.specs.Fmt.{decimal}
use Rattle.tb_wire.specs.Replies.{crlf}
use Rattle.tb_wire.proofs.Texts.{two_lines}
use Rattle.tb_wire.proofs.replies.Head.content.Goals as goal

pub returns-clause-lines : goal.returns-clause-lines
returns-clause-lines c =
    let size = decimal c.args.size in
    let first = c.end_line.ensures ∙ ap (λ (t : List ℕ). t ++ crlf) c.push.ensures.bytes in
    let second = c.push-2.ensures.bytes ∙ ap (λ (t : List ℕ). t ++ codes "Content-Length: ") first in
    let third = c.number.ensures.number ∙ ap (λ (t : List ℕ). t ++ size) second in
    c.end_line-2.ensures ∙ ap (λ (t : List ℕ). t ++ crlf) third
    ∙ two_lines c.args.self.now (codes "Content-Type: text/plain") crlf (codes "Content-Length: ") size
