-- The entry of a message that met a fault, at the running moment.
use Rattle.tb_session.proofs.CallerLemmas.{running-is}
use Rattle.tb_session.proofs.room.Room.doubted.Goals as goal

pub returns : goal.returns
returns g c =
    let now = running-is c.args.self.now.desk.host.history c.args.moment c.last.result c.later.result c.last.ensures
    c.later.ensures in
    λ i. record {
      submitter = c.args.submitter.now;
      number = c.args.number;
      moment = now i;
      message = c.args.message.now;
    }
