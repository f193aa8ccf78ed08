-- What is told of a call that a line fits, and of one that none fits.
use Rattle.std.proofs.Common.{◌≡◌, ℕ, zero, suc, ◌+◌, ◌≤◌, min, max, Bool, true, false, cond, ◌||◌, ◌<◌, List, [], ◌∷◌, length, Some, IfSome, refl, sym, ◌∙◌, ap, subst, arith, add-one, slice_get}
use Rattle.world_face.specs.Journal.{Entry, call_of, Allowed, Now, Wait, LinkOpen, LinkRead, LinkWrite, Connect, Connected, Listen, Accept, TcpRead, TcpWrite, TcpEnd, Close, UdpOpen}
use Rattle.world_face.specs.Journal.{UdpSend, UdpRecv, FileLen, FileRead}
use Rattle.world_face.specs.Tells.{Told, on, ceased, silent, Counts, Counted, Answers}
use Rattle.world_face.specs.Faults.{io_failed, made_failed, join_failed, accept_failed, sent_failed, got_failed, size_failed, waited_failed}
use Rattle.world_face.specs.Limits.{last_count}
use Rattle.replay.specs.Script.{Script, script_tells, newest_onto, kept_of}
use Rattle.replay.specs.Names.{name_of}
use Rattle.replay.specs.Fitting.{FitsNext, Advances, Ceases, IsCompleted, raise, raised, counted, has_failed}
use Rattle.replay.specs.Rows.{Row, entries_of, schedule_text}
use Rattle.std.specs.Option.{option_map}
use Rattle.std.proofs.lemmas.Option.{slice_get-map}

pub one_more : (n : ℕ) (lines older : List Entry) (e : Entry) → slice_get lines n ≡ Some e → newest_onto (suc n) lines older ≡ e ∷ newest_onto n lines older
one_more zero [] older e is = cc
one_more zero (l ∷ lines) older e is = let same : l ≡ e = cc in ap (λ x. x ∷ older) same
one_more (suc n) [] older e is = cc
one_more (suc n) (l ∷ lines) older e is = one_more n lines (l ∷ older) e is

-- what stands at a place
there : (rows : List Row) (n : ℕ) → n < length rows → (row : Row) × (slice_get rows n ≡ Some row)
there [] n lt = absurd (omega (arith, lt))
there (r ∷ rows) zero lt = (r, refl)
there (r ∷ rows) (suc n) lt = there rows n (omega (arith, lt))

-- a count is at least what it was, and one more after a failure
none : (n : ℕ) → max n (min last_count (n + 0)) ≤ n
none n = omega arith

at_most : (b : Bool) (n : ℕ) → max n (min last_count (n + (cond b 1 0 + 0))) ≤ raise n
at_most true n = omega arith
at_most false n = omega arith

quiet : (b : Bool) (n : ℕ) → b ≡ false → max n (min last_count (n + (cond b 1 0 + 0))) ≤ n
quiet true n h = cc
quiet false n h = omega arith

off : (b : Bool) → b || false ≡ false → b ≡ false
off true h = h
off false h = refl

-- a failure of this call is counted where it is raised
pub raises : (e : Entry) (f : Counts) → Counted f (raised (name_of (call_of e)) f) (e ∷ [])
raises (Now m) f = record { link = none f.link; wait = none f.wait; socket = none f.socket; file = none f.file }
raises (Wait w t a r) f = record { link = none f.link; wait = at_most (waited_failed a) f.wait; socket = none f.socket; file = none f.file }
raises (LinkOpen at a) f = record { link = at_most (made_failed a) f.link; wait = none f.wait; socket = none f.socket; file = none f.file }
raises (LinkRead n a o) f = record { link = at_most (io_failed a) f.link; wait = none f.wait; socket = none f.socket; file = none f.file }
raises (LinkWrite o a) f = record { link = at_most (io_failed a) f.link; wait = none f.wait; socket = none f.socket; file = none f.file }
raises (Connect s to a) f = record { link = none f.link; wait = none f.wait; socket = at_most (made_failed a) f.socket; file = none f.file }
raises (Connected s a) f = record { link = none f.link; wait = none f.wait; socket = at_most (join_failed a) f.socket; file = none f.file }
raises (Listen s at a) f = record { link = none f.link; wait = none f.wait; socket = at_most (made_failed a) f.socket; file = none f.file }
raises (Accept l s a) f = record { link = none f.link; wait = none f.wait; socket = at_most (accept_failed a) f.socket; file = none f.file }
raises (TcpRead s n a o) f = record { link = none f.link; wait = none f.wait; socket = at_most (io_failed a) f.socket; file = none f.file }
raises (TcpWrite s o a) f = record { link = none f.link; wait = none f.wait; socket = at_most (io_failed a) f.socket; file = none f.file }
raises (TcpEnd s a) f = record { link = none f.link; wait = none f.wait; socket = at_most (made_failed a) f.socket; file = none f.file }
raises (Close s) f = record { link = none f.link; wait = none f.wait; socket = none f.socket; file = none f.file }
raises (UdpOpen s at a) f = record { link = none f.link; wait = none f.wait; socket = at_most (made_failed a) f.socket; file = none f.file }
raises (UdpSend s to o a) f = record { link = none f.link; wait = none f.wait; socket = at_most (sent_failed a) f.socket; file = none f.file }
raises (UdpRecv s n a o) f = record { link = none f.link; wait = none f.wait; socket = at_most (got_failed a) f.socket; file = none f.file }
raises (FileLen n a) f = record { link = none f.link; wait = none f.wait; socket = none f.socket; file = at_most (size_failed a) f.file }
raises (FileRead n p k a o) f = record { link = none f.link; wait = none f.wait; socket = none f.socket; file = at_most (io_failed a) f.file }

-- an entry that is no failure counts for nothing
unfailed : (e : Entry) (f : Counts) → has_failed e ≡ false → Counted f f (e ∷ [])
unfailed (Now m) f h = record { link = none f.link; wait = none f.wait; socket = none f.socket; file = none f.file }
unfailed (Wait w t a r) f h = record {
  link = none f.link;
  wait = quiet (waited_failed a) f.wait (off (waited_failed a) (off ((waited_failed a) || false) h));
  socket = none f.socket;
  file = none f.file;
}
unfailed (LinkOpen at a) f h = record {
  link = quiet (made_failed a) f.link (off (made_failed a) (off ((made_failed a) || false) (off (((made_failed a) || false) || false) h)));
  wait = none f.wait;
  socket = none f.socket;
  file = none f.file;
}
unfailed (LinkRead n a o) f h = record {
  link = quiet (io_failed a) f.link (off (io_failed a) (off ((io_failed a) || false) (off (((io_failed a) || false) || false) h)));
  wait = none f.wait;
  socket = none f.socket;
  file = none f.file;
}
unfailed (LinkWrite o a) f h = record {
  link = quiet (io_failed a) f.link (off (io_failed a) (off ((io_failed a) || false) (off (((io_failed a) || false) || false) h)));
  wait = none f.wait;
  socket = none f.socket;
  file = none f.file;
}
unfailed (Connect s to a) f h = record { link = none f.link; wait = none f.wait; socket = quiet (made_failed a) f.socket (off (made_failed a) h); file = none f.file }
unfailed (Connected s a) f h = record { link = none f.link; wait = none f.wait; socket = quiet (join_failed a) f.socket (off (join_failed a) h); file = none f.file }
unfailed (Listen s at a) f h = record { link = none f.link; wait = none f.wait; socket = quiet (made_failed a) f.socket (off (made_failed a) h); file = none f.file }
unfailed (Accept l s a) f h = record { link = none f.link; wait = none f.wait; socket = quiet (accept_failed a) f.socket (off (accept_failed a) h); file = none f.file }
unfailed (TcpRead s n a o) f h = record { link = none f.link; wait = none f.wait; socket = quiet (io_failed a) f.socket (off (io_failed a) h); file = none f.file }
unfailed (TcpWrite s o a) f h = record { link = none f.link; wait = none f.wait; socket = quiet (io_failed a) f.socket (off (io_failed a) h); file = none f.file }
unfailed (TcpEnd s a) f h = record { link = none f.link; wait = none f.wait; socket = quiet (made_failed a) f.socket (off (made_failed a) h); file = none f.file }
unfailed (Close s) f h = record { link = none f.link; wait = none f.wait; socket = none f.socket; file = none f.file }
unfailed (UdpOpen s at a) f h = record { link = none f.link; wait = none f.wait; socket = quiet (made_failed a) f.socket (off (made_failed a) h); file = none f.file }
unfailed (UdpSend s to o a) f h = record { link = none f.link; wait = none f.wait; socket = quiet (sent_failed a) f.socket (off (sent_failed a) h); file = none f.file }
unfailed (UdpRecv s n a o) f h = record { link = none f.link; wait = none f.wait; socket = quiet (got_failed a) f.socket (off (got_failed a) h); file = none f.file }
unfailed (FileLen n a) f h = record { link = none f.link; wait = none f.wait; socket = none f.socket; file = quiet (size_failed a) f.file h }
unfailed (FileRead n p k a o) f h = record { link = none f.link; wait = none f.wait; socket = none f.socket; file = quiet (io_failed a) f.file h }

pub counts : (e : Entry) (f : Counts) → Counted f (counted e f) (e ∷ [])
counts e f = elim (has_failed e) as (λ b. has_failed e ≡ b → Counted f (cond b (raised (name_of (call_of e)) f) f) (e ∷ [])) [ true ↦ λ _. raises e f | false ↦ λ h. unfailed e f h ] refl

-- a call that the next line fits
pub fits : (old new : Script) (e : Entry) → FitsNext old e → Advances old new e → Answers (script_tells old) (script_tells new) e
fits old new e next to = record {
  same = to.source;
  allowed = next.allowed;
  told = on next.live (to.live ∙ next.live) to.kept;
  counted = rw to.faults (counts e old.faults);
}

pub ceases : (old new : Script) (e : Entry) → Allowed e → Ceases old new (call_of e) → Answers (script_tells old) (script_tells new) e
ceases old new e allowed to =
    let kept : kept_of new ≡ kept_of old = rw (to.used, to.lines) refl in
    record {
      same = ap schedule_text to.lines;
      allowed = allowed;
      told = elim old.live as (λ b. old.live ≡ b → Told (script_tells old) (script_tells new) (e ∷ [])) [
        | true ↦ λ is. ceased is to.dead [] [] e refl kept (subst (λ o. IfSome o (λ s. s ≡ call_of e)) (sym (to.first is)) refl)
        | false ↦ λ is. silent is to.dead kept (to.later is)
      ] refl;
      counted = rw to.faults (raises e old.faults);
    }

-- The next line was completed, and then it is used up and counted.
pub used_up : (old mid new : Script) (e : Entry) → FitsNext old e → IsCompleted old mid e → new.lines ≡ mid.lines → new.used ≡ mid.used + 1 → new.live ≡ mid.live →
    new.stop ≡ mid.stop → new.faults ≡ counted e mid.faults → Advances old new e
used_up old mid new e next done lines used live stop faults =
    let within : old.used < length mid.lines = subst (λ n. old.used < n) (sym done.count) next.within in
    let at = there mid.lines old.used within in
    let here : slice_get (entries_of mid.lines) old.used ≡ Some e = slice_get-map (λ (row : Row). row.entry) mid.lines old.used ∙ ap (option_map (λ (row : Row). row.entry)) at.1
    ∙ ap Some (done.next at.0 at.1) in
    let step : newest_onto (old.used + 1) (entries_of mid.lines) [] ≡ e ∷ newest_onto old.used (entries_of mid.lines) [] = rw add-one (one_more old.used (entries_of mid.lines) [] e here) in
    record {
      source = ap schedule_text lines ∙ done.source;
      kept = ap (λ ls. newest_onto new.used (entries_of ls) []) lines ∙ ap (λ n. newest_onto n (entries_of mid.lines) []) (used ∙ ap (λ n. n + 1) done.used) ∙ step ∙ ap
          (λ k. e ∷ k) (ap (λ n. newest_onto n (entries_of mid.lines) []) (sym done.used) ∙ done.kept);
      live = live ∙ done.live;
      stop = stop ∙ done.stop;
      faults = faults ∙ ap (counted e) done.faults;
    }
