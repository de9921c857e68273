-- What a contract sees of a follower.
use Rattle.std.specs.Prelude.{◌≡◌, ℕ, List, [], length, Option, Some, None, slice_index_or, refl}
use Rattle.std.specs.Coded.{Coded, code_by, coded×, coded_list, coded_option}
use Rattle.tb_message.specs.declared.message.Entry.{Entry}
use Rattle.tb_message.specs.contracts.message.Entry as entry
use Rattle.tb_message.specs.Spelling.{IsInRange}
use Rattle.tb_desk.specs.Desks.{DeskView, desk_code}
use Rattle.tb_replica.specs.Following.{Following}
use Rattle.tb_replica.specs.Arrival.{KeepsNothing}

-- the desk that keeps the copy, and what is kept for the 1,023 places behind the next one
pub record FollowerView (D : Type 0) : Type 0 where
  pub desk : DeskView D
  pub ahead : List (Option Entry)

abbrev pub follower_code : {D : Type 0} → Coded D → Coded (FollowerView D)
follower_code {D} disk =
    code_by (DeskView D × List (Option Entry))
    (coded× (desk_code disk) (coded_list (coded_option entry.the_row.coded)))
    (λ v. (v.desk, v.ahead))
    (λ p. record { desk = p.0; ahead = p.1 })
    (λ _. refl)

-- the copy and what is kept
abbrev pub following : {D : Type 0} → FollowerView D → Following
following follower = record { history = follower.desk.host.history; ahead = follower.ahead }

-- as an opening leaves the desk: nothing is in doubt, and nothing has happened since
pub record IsOpened {D : Type 0} (desk : DeskView D) : Type 0 where
  pub sure : desk.doubt ≡ []
  pub recovered : desk.recovered ≡ length desk.host.history
  pub faults : desk.faults ≡ 0
  pub opened : desk.opened ≡ desk.disk
  pub doubted : desk.doubted ≡ []

-- nothing is kept for any of the 1,023 places
pub record IsFresh (follower : Following) : Type 0 where
  pub window : length follower.ahead ≡ 1023
  pub nothing : KeepsNothing follower

-- each entry that is kept is in its ranges
abbrev pub AreInRange : List (Option Entry) → Type 0
AreInRange ahead = (index : ℕ) (entry : Entry) → slice_index_or ahead index None ≡ Some entry → IsInRange entry

-- what holds of every follower
pub record IsFollower (ahead : List (Option Entry)) : Type 0 where
  pub window : length ahead ≡ 1023
  pub in_range : AreInRange ahead
