use Rattle.tb_host.proofs.ServeLemmas.{told-first, told-second}
use Rattle.tb_host.proofs.serve_command.tell_run.Goals as goal

pub returns-in-Err : goal.returns-in-Err
returns-in-Err g c =
    told-first c.args.failed c.args.served c.args.accepted (g.O.Sink.sink c.args.out.now)
    (g.O.Sink.sink c.tell_count.new.out) c.if-failed.false c.in-Err.ensures.fails

pub returns-in-Err-tell_count : goal.returns-in-Err-tell_count
returns-in-Err-tell_count g c =
    told-second c.args.failed c.args.served c.args.accepted (g.O.Sink.sink c.args.out.now)
    (g.O.Sink.sink c.tell_count.new.out) (g.O.Sink.sink c.tell_count-in-Ok.new.out) c.if-failed.false
    c.in-Ok.ensures.takes c.in-Err-tell_count.ensures.fails
