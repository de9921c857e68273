-- What a write left.
use Rattle.std.proofs.Common.{subst}
use Rattle.tb_link.specs.Sources.{LeavesSource}
use Rattle.tb_session.proofs.WriteLemmas.{writes-by}
use Rattle.tb_session.proofs.write.write_bytes.Goals as goal

pub returns : goal.returns
returns g c = record {
  writes = writes-by _ _ _ _ c.args.bytes.now c.write.result c.write.ensures.takes c.write.ensures.fails
      (subst (λ s. LeavesSource s (g.K.Source.source c.write.new.self)) (g.met.K.Link.source_is c.args.link.now)
      (subst (λ s. LeavesSource (g.K.Sink.source_beside c.args.link.now) s) (g.met.K.Link.source_is c.write.new.self)
      c.write.ensures.beside));
}
