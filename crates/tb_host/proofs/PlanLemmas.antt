-- What the plan says of the gates.
use Rattle.std.proofs.Common.{◌≡◌, ℕ, ap, ◌∙◌}
use Rattle.tb_words.specs.declared.command.Command.{Command}
use Rattle.tb_words.specs.declared.command.Command.TheVariants as command
use Rattle.tb_host.specs.Commands.{HasGates, plan_of}
use Rattle.tb_host.specs.declared.planned.Plan.{Plan}

-- as many gates as the plan has workers are as many as the command has
pub HasGates-planned : (said : Command) (plan : Plan) (gates : ℕ)
    → plan ≡ plan_of said
    → gates ≡ plan.workers
    → HasGates said gates
HasGates-planned (command.Award full) plan gates planned as_many = tt
HasGates-planned (command.Run operator) plan gates planned as_many = tt
HasGates-planned (command.Serve operator port workers links) plan gates planned as_many =
    as_many ∙ ap (λ (p : Plan). p.workers) planned
HasGates-planned (command.Import operator caller) plan gates planned as_many = tt
HasGates-planned (command.Report operator caller asked csv) plan gates planned as_many = tt
HasGates-planned command.Migrate plan gates planned as_many = tt
HasGates-planned command.Check plan gates planned as_many = tt
HasGates-planned (command.FollowSend from) plan gates planned as_many = tt
HasGates-planned command.FollowTake plan gates planned as_many = tt
HasGates-planned (command.Register bill) plan gates planned as_many = tt
HasGates-planned (command.Trial seed count) plan gates planned as_many = tt
