-- Document 01, "What every contract settles": any two outcomes that a function over rows permits coincide. Assumes nothing.
use mathlib.Core.Path.{sym, ◌∙◌}
use Rattle.laws.proofs.Outcomes.{SettlesResult}
use Rattle.timetable.proofs.own_rule.Kinds as own_rule_kinds
use Rattle.timetable.proofs.own_rule.Reads as own_rule_reads
use Rattle.timetable.proofs.stop_rule.Kinds as stop_rule_kinds
use Rattle.timetable.proofs.stop_rule.Reads as stop_rule_reads
use Rattle.timetable.proofs.stops_differ.Kinds as stops_differ_kinds
use Rattle.timetable.proofs.stops_differ.Reads as stops_differ_reads
use Rattle.timetable.proofs.onward.Kinds as onward_kinds
use Rattle.timetable.proofs.onward.Reads as onward_reads
use Rattle.timetable.proofs.minute_rule.Kinds as minute_rule_kinds
use Rattle.timetable.proofs.minute_rule.Reads as minute_rule_reads
use Rattle.timetable.proofs.trip_rule.Kinds as trip_rule_kinds
use Rattle.timetable.proofs.trip_rule.Reads as trip_rule_reads
use Rattle.timetable.proofs.departure_rule.Kinds as departure_rule_kinds
use Rattle.timetable.proofs.departure_rule.Reads as departure_rule_reads
use Rattle.timetable.proofs.follows.Kinds as follows_kinds
use Rattle.timetable.proofs.follows.Reads as follows_reads
use Rattle.timetable.proofs.lands_there.Kinds as lands_there_kinds
use Rattle.timetable.proofs.lands_there.Reads as lands_there_reads

pub own_rule_settled : SettlesResult 0 own_rule_kinds.ps own_rule_kinds.r own_rule_reads.Post
own_rule_settled κs arguments one other ending another first second = first ∙ sym second

pub stop_rule_settled : SettlesResult 0 stop_rule_kinds.ps stop_rule_kinds.r stop_rule_reads.Post
stop_rule_settled κs arguments one other ending another first second = first ∙ sym second

pub stops_differ_settled : SettlesResult 0 stops_differ_kinds.ps stops_differ_kinds.r stops_differ_reads.Post
stops_differ_settled κs arguments one other ending another first second = first ∙ sym second

pub onward_settled : SettlesResult 0 onward_kinds.ps onward_kinds.r onward_reads.Post
onward_settled κs arguments one other ending another first second = first ∙ sym second

pub minute_rule_settled : SettlesResult 0 minute_rule_kinds.ps minute_rule_kinds.r minute_rule_reads.Post
minute_rule_settled κs arguments one other ending another first second = first ∙ sym second

pub trip_rule_settled : SettlesResult 0 trip_rule_kinds.ps trip_rule_kinds.r trip_rule_reads.Post
trip_rule_settled κs arguments one other ending another first second = first ∙ sym second

pub departure_rule_settled : SettlesResult 0 departure_rule_kinds.ps departure_rule_kinds.r departure_rule_reads.Post
departure_rule_settled κs arguments one other ending another first second = first ∙ sym second

pub follows_settled : SettlesResult 0 follows_kinds.ps follows_kinds.r follows_reads.Post
follows_settled κs arguments one other ending another first second = first ∙ sym second

pub lands_there_settled : SettlesResult 0 lands_there_kinds.ps lands_there_kinds.r lands_there_reads.Post
lands_there_settled κs arguments one other ending another first second = first ∙ sym second
