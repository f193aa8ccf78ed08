-- What a World tells in which one call gets a fault.
use Rattle.std.specs.Prelude.{◌≡◌, ℕ, ◌+◌, ◌-◌, ◌==◌, ◌&&◌, nat_lt, min, if◌then◌else◌, Bool, false, Option, Some, None, is_none, []}
use Rattle.world_face.specs.Journal.{Entry}
use Rattle.world_face.specs.Limits.{last_count}
use Rattle.world_face.specs.Tells.{Answers, Counts, Telling}
use Rattle.world_face.specs.declared.Io.{Io}
use Rattle.world_face.specs.declared.Io.TheVariants.{Done, End, NotYet as IoNotYet, Failed}
use Rattle.drive_world.specs.declared.fault.How.{How}
use Rattle.drive_world.specs.declared.fault.How.TheVariants.{Fail, Short, NotYet}
use Rattle.drive_world.specs.declared.fault.Kind.{Kind}
use Rattle.drive_world.specs.declared.fault.Kind.TheVariants.{Link, Wait, Socket, File}
use Rattle.drive_world.specs.declared.fault.Plan.{Plan}

-- the World below, and the fault: what it is, how many calls come before it, and the kind of the call that got it
pub record Faulted (W : Type 0) : Type 0 where
  pub inner : W
  pub plan : Plan

-- the fault is given to no call before that with this number
abbrev pub plan_of : How → ℕ → Plan
plan_of how at = record { how = how; left = at; given = None }

-- the fault that the next call gets, if it can be answered so
abbrev pub due : Plan → Option How
due p = if (p.left == 0 && is_none p.given) then Some p.how else None

-- one call more
abbrev pub counted : Plan → Plan
counted p = record p { left = p.left - 1 }

-- a call of this kind got the fault
abbrev pub given_to : Kind → Plan → Plan
given_to kind p = record p { left = p.left - 1; given = Some kind }

abbrev pub is_one : Io → Bool
is_one (Done n) = n == 1
is_one End = false
is_one IoNotYet = false
is_one Failed = false

-- a call for several octets got it where it moved one
abbrev pub short_of : Kind → ℕ → Io → Plan → Plan
short_of kind whole answer p = if (nat_lt 1 whole && is_one answer) then record p { given = Some kind } else p

abbrev pub none_failed : Counts
none_failed = record { link = 0; wait = 0; socket = 0; file = 0 }

abbrev pub one_failed : Kind → Counts
one_failed Link = record { link = 1; wait = 0; socket = 0; file = 0 }
one_failed Wait = record { link = 0; wait = 1; socket = 0; file = 0 }
one_failed Socket = record { link = 0; wait = 0; socket = 1; file = 0 }
one_failed File = record { link = 0; wait = 0; socket = 0; file = 1 }

-- how many calls of each kind failed by the fault
abbrev pub failed_by : How → Option Kind → Counts
failed_by Fail (Some kind) = one_failed kind
failed_by Fail None = none_failed
failed_by Short given = none_failed
failed_by NotYet given = none_failed

-- It tells no call, and of faults those of the World below with its own, each kind up to the last count.
abbrev pub tells_over : Plan → Telling → Telling
tells_over p below = let more = failed_by p.how p.given in record {
  source = below.source;
  kept = [];
  live = false;
  stop = None;
  faults = record {
    link = min last_count (below.faults.link + more.link);
    wait = min last_count (below.faults.wait + more.wait);
    socket = min last_count (below.faults.socket + more.socket);
    file = min last_count (below.faults.file + more.file);
  };
}

-- a call with its answer was made on the World below, and is counted
pub record Passes {W : Type 0} (tells : W → Telling) (old new : Faulted W) (e : Entry) : Type 0 where
  pub answers : Answers (tells old.inner) (tells new.inner) e
  pub plan : new.plan ≡ counted old.plan

-- the same for one octet in place of several, of which the fault is that it moves no more
pub record FallsShort {W : Type 0} (tells : W → Telling) (kind : Kind) (whole : ℕ) (answer : Io) (old new : Faulted W) (e : Entry) : Type 0 where
  pub answers : Answers (tells old.inner) (tells new.inner) e
  pub plan : new.plan ≡ short_of kind whole answer (counted old.plan)
