use Rattle.std.proofs.Common.{length, refl, arith}
use Rattle.tb_wire.proofs.FrontLemmas.{crowded, has_room}
use Rattle.tb_wire.proofs.fronts.crowded_front.Goals as goal

-- a head that has no room for 32 headers is that fault
pub returns-in-Whole : goal.returns-in-Whole
returns-in-Whole c =
    crowded c.args.text.now c.args.there c.read_head.new.headers c.in-Whole.field-0 _ c.requires.crowded
    c.in-Whole.ensures.parts refl

-- and none is without room for 2,731
pub returns : goal.returns
returns c =
    absurd (has_room (length c.read_head.new.headers) c.args.text.now (omega (arith, c.in_ok-headers.ensures.len))
    c.requires.few c.in-Crowded.ensures.exceeds)
