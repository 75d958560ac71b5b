-- Document 01, "What every contract settles": room that is lent holds zeros and nothing else. Assumes nothing.
use mathlib.Core.Path.{sym, ◌∙◌}
use Rattle.laws.proofs.Outcomes.{SettlesResult}
use Rattle.rooms.proofs.work_room.Kinds as work_kinds
use Rattle.rooms.proofs.work_room.Reads as work_reads
use Rattle.rooms.proofs.plan_room.Kinds as plan_kinds
use Rattle.rooms.proofs.plan_room.Reads as plan_reads
use Rattle.rooms.proofs.sailings_room.Kinds as sailings_kinds
use Rattle.rooms.proofs.sailings_room.Reads as sailings_reads
use Rattle.rooms.proofs.query_room.Kinds as query_kinds
use Rattle.rooms.proofs.query_room.Reads as query_reads

pub work_room_settled : SettlesResult 0 work_kinds.ps work_kinds.r work_reads.Post
work_room_settled κs arguments one other ending another first second = first.0 ∙ sym second.0

pub plan_room_settled : SettlesResult 0 plan_kinds.ps plan_kinds.r plan_reads.Post
plan_room_settled κs arguments one other ending another first second = first.0 ∙ sym second.0

pub sailings_room_settled : SettlesResult 0 sailings_kinds.ps sailings_kinds.r sailings_reads.Post
sailings_room_settled κs arguments one other ending another first second = first.0 ∙ sym second.0

pub query_room_settled : SettlesResult 0 query_kinds.ps query_kinds.r query_reads.Post
query_room_settled κs arguments one other ending another first second = first.0 ∙ sym second.0
