use Rattle.std.proofs.Common.{refl, sym, ◌∙◌}
use Rattle.tb_host.proofs.CauseLemmas.{check-cause, register-cause, report-cause, send-cause, serve-cause, trial-cause}
use Rattle.tb_host.proofs.HostLemmas.{EndsAs-check, EndsAs-register, EndsAs-report, EndsAs-send}
use Rattle.tb_host.proofs.host.do_command.Goals as goal

pub returns-in-Serve-clause-causes : goal.returns-in-Serve-clause-causes
returns-in-Serve-clause-causes g c =
    serve-cause g.G.Gate.gate _ _ g.G.Conn.Source.source g.G.Conn.Sink.sink c.in-Serve.operator
    (g.C.Clock.clock c.args.clock) c.serve-own.result.0 c.ending-in-Serve.result c.ending-in-Serve.ensures
    c.serve-own.ensures.ends refl

pub returns-in-Report-clause-ends : goal.returns-in-Report-clause-ends
returns-in-Report-clause-ends g c =
    EndsAs-report g.G.Gate.gate g.G.Conn.Source.source g.G.Conn.Sink.sink (g.C.Clock.clock c.args.clock)
    c.args.command.now c.in-Report.operator c.in-Report.key c.in-Report.query c.in-Report.csv c.inquiry-asked.result
    c.report-own.result.0 c.ending-in-Report.result _ _ c.in-Report.is c.inquiry-asked.ensures
    c.ending-in-Report.ensures (c.report-own.ensures.ends (g.I.Source.source c.args.input.now))

pub returns-in-Report-clause-causes : goal.returns-in-Report-clause-causes
returns-in-Report-clause-causes g c =
    report-cause g.G.Gate.gate _ _ c.inquiry-asked.result c.report-own.result.0 c.ending-in-Report.result
    c.ending-in-Report.ensures (c.report-own.ensures.ends (g.I.Source.source c.args.input.now))

pub returns-in-FollowSend-clause-ends : goal.returns-in-FollowSend-clause-ends
returns-in-FollowSend-clause-ends g c =
    EndsAs-send g.G.Gate.gate g.G.Conn.Source.source g.G.Conn.Sink.sink (g.C.Clock.clock c.args.clock)
    c.args.command.now c.in-FollowSend.from c.follow_send-own.result.0 c.ending-in-FollowSend.result _ _
    c.in-FollowSend.is c.ending-in-FollowSend.ensures
    (c.follow_send-own.ensures.ends (g.I.Source.source c.args.input.now))

pub returns-in-FollowSend-clause-causes : goal.returns-in-FollowSend-clause-causes
returns-in-FollowSend-clause-causes g c =
    send-cause g.G.Gate.gate _ _ c.in-FollowSend.from c.follow_send-own.result.0 c.ending-in-FollowSend.result
    c.ending-in-FollowSend.ensures (c.follow_send-own.ensures.ends (g.I.Source.source c.args.input.now))

pub returns-in-Trial-clause-causes : goal.returns-in-Trial-clause-causes
returns-in-Trial-clause-causes g c =
    trial-cause g.G.Gate.gate _ _ c.in-Trial.seed c.in-Trial.count c.trial.result c.ending-in-Trial.result
    c.ending-in-Trial.ensures c.trial.ensures.ends refl

pub returns-in-Register-clause-ends : goal.returns-in-Register-clause-ends
returns-in-Register-clause-ends g c =
    EndsAs-register g.G.Gate.gate g.G.Conn.Source.source g.G.Conn.Sink.sink (g.C.Clock.clock c.args.clock)
    c.args.command.now c.in-Register.cusip c.register-own.result.0 c.ending-in-Register.result _ _
    c.in-Register.is c.ending-in-Register.ensures
    (c.register-own.ensures.ends (g.I.Source.source c.args.input.now))

pub returns-in-Register-clause-causes : goal.returns-in-Register-clause-causes
returns-in-Register-clause-causes g c =
    register-cause g.G.Gate.gate _ _ c.in-Register.cusip c.register-own.result.0 c.ending-in-Register.result
    c.ending-in-Register.ensures (c.register-own.ensures.ends (g.I.Source.source c.args.input.now))

pub returns-in-Check-clause-ends : goal.returns-in-Check-clause-ends
returns-in-Check-clause-ends g c =
    EndsAs-check g.G.Gate.gate g.G.Conn.Source.source g.G.Conn.Sink.sink (g.C.Clock.clock c.args.clock)
    c.args.command.now c.check-own.result.0 c.ending-in-Check.result _ _
    c.in-Check.is c.ending-in-Check.ensures
    (c.check-own.ensures.ends (g.I.Source.source c.args.input.now))

pub returns-in-Check-clause-causes : goal.returns-in-Check-clause-causes
returns-in-Check-clause-causes g c =
    check-cause g.G.Gate.gate _ _ c.check-own.result.0 c.ending-in-Check.result
    c.ending-in-Check.ensures (c.check-own.ensures.ends (g.I.Source.source c.args.input.now))

pub returns-in-Register-clause-kept : goal.returns-in-Register-clause-kept
returns-in-Register-clause-kept g c = λ sure is.
    c.register-own.ensures.lacked sure (sym c.ending-in-Register.ensures ∙ is)
