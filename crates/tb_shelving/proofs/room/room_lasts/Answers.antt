-- Room for a list of messages is room for its parts.
use Rattle.tb_shelving.proofs.RoomLemmas.{Fits-nil, Fits-one, Fits-rest}
use Rattle.tb_shelving.proofs.room.room_lasts.Goals as goal

pub returns-clause-empty : goal.returns-clause-empty
returns-clause-empty c room = Fits-nil room

pub returns-clause-one : goal.returns-clause-one
returns-clause-one c room message messages fits = Fits-one room message messages fits

pub returns-clause-rest : goal.returns-clause-rest
returns-clause-rest c room message messages fits = Fits-rest room message messages fits

pub returns-clause-after : goal.returns-clause-after
returns-clause-after c old new message messages fits takes = takes messages fits

pub returns-clause-kept : goal.returns-clause-kept
returns-clause-kept c old new messages fits keeps = keeps messages fits
