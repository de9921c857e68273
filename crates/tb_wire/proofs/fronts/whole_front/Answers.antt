use Rattle.std.proofs.Common.{refl, arith}
use Rattle.tb_wire.proofs.FrontLemmas.{fits, whole}
use Rattle.tb_wire.proofs.fronts.whole_front.Goals as goal

pub front_of_head-requires-clause-method : goal.front_of_head-requires-clause-method
front_of_head-requires-clause-method c =
    (fits c.args.text.now c.args.headers.now c.args.spans.now c.requires.head).method

pub front_of_head-requires-clause-path : goal.front_of_head-requires-clause-path
front_of_head-requires-clause-path c = (fits c.args.text.now c.args.headers.now c.args.spans.now c.requires.head).path

pub front_of_head-requires-clause-within : goal.front_of_head-requires-clause-within
front_of_head-requires-clause-within c =
    (fits c.args.text.now c.args.headers.now c.args.spans.now c.requires.head).within

pub front_of_head-requires-clause-target : goal.front_of_head-requires-clause-target
front_of_head-requires-clause-target c =
    (fits c.args.text.now c.args.headers.now c.args.spans.now c.requires.head).target

pub front_of_head-requires-clause-small : goal.front_of_head-requires-clause-small
front_of_head-requires-clause-small c =
    let small = (fits c.args.text.now c.args.headers.now c.args.spans.now c.requires.head).small in
    omega (arith, small, c.requires.short)

pub returns : goal.returns
returns c =
    whole c.args.text.now c.args.there c.args.headers.now _ c.args.spans.now c.front_of_head.result
    c.requires.head.parts refl c.front_of_head.ensures
