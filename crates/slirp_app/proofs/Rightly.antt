-- What a World may answer to reads on the link, in a trace and in what the network sees of it.
use Rattle.std.proofs.Common.{Bool, true, false, cond, List, [], ◌∷◌, ◌++◌}
use Rattle.world_face.specs.Journal.{Allowed, AreAllowed, Entry, LinkRead}
use Rattle.rules_control.specs.Apart.{is_on_control, seen, without_control}

abbrev pub IsRightRead : Entry → Type 0
IsRightRead (LinkRead asked answer octets) = Allowed (LinkRead asked answer octets)
IsRightRead _ = Unit {0}

abbrev pub AreRightReads : List Entry → Type 0
AreRightReads [] = Unit {0}
AreRightReads (e ∷ past) = IsRightRead e × AreRightReads past

right_read : (e : Entry) → Allowed e → IsRightRead e
right_read (LinkRead asked answer octets) allowed = allowed
right_read _ allowed = tt

pub right_reads : (past : List Entry) → AreAllowed past → AreRightReads past
right_reads [] allowed = tt
right_reads (e ∷ past) allowed = (right_read e allowed.0, right_reads past allowed.1)

pub right_before : (later past : List Entry) → AreRightReads (later ++ past) → AreRightReads past
right_before [] past right = right
right_before (e ∷ later) past right = right_before later past right.1

right_seen : (e : Entry) → IsRightRead e → IsRightRead (seen e)
right_seen (LinkRead asked answer octets) right = right
right_seen _ right = tt

pub right_apart : (past : List Entry) → AreRightReads past → AreRightReads (without_control past)
right_apart [] right = tt
right_apart (e ∷ past) right = by (is_on_control e) (right_seen e right.0) (right_apart past right.1)
  where
    by : (b : Bool) → IsRightRead (seen e) → AreRightReads (without_control past) → AreRightReads (cond b (without_control past) (seen e ∷ without_control past))
    by true one rest = rest
    by false one rest = (one, rest)
