use Rattle.std.proofs.Common.{◌≡◌, ◌⊎◌, inl, inr, ℕ, List, [], ◌∷◌, ◌++◌, sym, ◌∙◌, ap, append_assoc, codes, decimal, map, string_bytes}
use Rattle.slirp_settings.specs.declared.Forward.{Forward}
use Rattle.replay.proofs.Putting.{puts_same}
use Rattle.app_edges.specs.Texts.{told_text}
use Rattle.app_edges.specs.declared.outcome.Outcome.{Outcome}
use Rattle.app_edges.specs.declared.outcome.Outcome.TheVariants.{ScheduleRead, ScheduleTooLarge}
use Rattle.app_edges.proofs.status.tell.Goals as goal

pub returns-in-FrameTooLong-clause-text : goal.returns-in-FrameTooLong-clause-text
returns-in-FrameTooLong-clause-text g c =
    let words = map string_bytes c.args.words.now in
    let forwards = c.args.forwards.now in
    puts_same _ _ _ _ _ _ _ c.tell_number-in-FrameTooLong.ensures
    (ap (λ t. codes "slirpd: frame of " ++ t) (sym (append_assoc (decimal c.in-FrameTooLong.length) (codes " octets") (10 ∷ []))) ∙ ap (told_text words forwards) (sym c.in-FrameTooLong.is))

pub returns-in-FrameCut-clause-text : goal.returns-in-FrameCut-clause-text
returns-in-FrameCut-clause-text g c =
    let words = map string_bytes c.args.words.now in
    let forwards = c.args.forwards.now in
    puts_same _ _ _ _ _ _ _ c.tell_number-in-FrameCut.ensures (ap (λ t. codes "slirpd: link ended inside a frame, " ++ t)
    (sym (append_assoc (decimal c.in-FrameCut.octets) (codes " octets") (10 ∷ []))) ∙ ap (told_text words forwards) (sym c.in-FrameCut.is))

pub returns-in-LinkFault-clause-text : goal.returns-in-LinkFault-clause-text
returns-in-LinkFault-clause-text g c =
    let words = map string_bytes c.args.words.now in
    let forwards = c.args.forwards.now in
    puts_same _ _ _ _ _ _ _ c.put.ensures (ap (told_text words forwards) (sym c.in-LinkFault.is))

pub returns-in-WaitFault-clause-text : goal.returns-in-WaitFault-clause-text
returns-in-WaitFault-clause-text g c =
    let words = map string_bytes c.args.words.now in
    let forwards = c.args.forwards.now in
    puts_same _ _ _ _ _ _ _ c.put-in-WaitFault.ensures (ap (told_text words forwards) (sym c.in-WaitFault.is))

pub returns-in-NoMemory-clause-text : goal.returns-in-NoMemory-clause-text
returns-in-NoMemory-clause-text g c =
    let words = map string_bytes c.args.words.now in
    let forwards = c.args.forwards.now in
    puts_same _ _ _ _ _ _ _ c.put-in-NoMemory.ensures (ap (told_text words forwards) (sym c.in-NoMemory.is))

pub returns-in-ControlRefused-clause-text : goal.returns-in-ControlRefused-clause-text
returns-in-ControlRefused-clause-text g c =
    let words = map string_bytes c.args.words.now in
    let forwards = c.args.forwards.now in
    puts_same _ _ _ _ _ _ _ c.put-in-ControlRefused.ensures (ap (told_text words forwards) (sym c.in-ControlRefused.is))

pub returns-in-BadConfig-clause-text : goal.returns-in-BadConfig-clause-text
returns-in-BadConfig-clause-text g c =
    let words = map string_bytes c.args.words.now in
    let forwards = c.args.forwards.now in
    puts_same _ _ _ _ _ _ _ c.tell_named.ensures (ap (λ (n : List ℕ). codes "slirpd: config: " ++ n ++ 10 ∷ []) c.name.ensures ∙ ap (told_text words forwards) (sym c.in-BadConfig.is))

pub returns-in-ScheduleLine-clause-text : goal.returns-in-ScheduleLine-clause-text
returns-in-ScheduleLine-clause-text g c =
    let words = map string_bytes c.args.words.now in
    let forwards = c.args.forwards.now in
    puts_same _ _ _ _ _ _ _ c.tell_number.ensures (ap (told_text words forwards) (sym c.in-ScheduleLine.is))

pub returns-in-Diverged-clause-text : goal.returns-in-Diverged-clause-text
returns-in-Diverged-clause-text g c =
    let words = map string_bytes c.args.words.now in
    let forwards = c.args.forwards.now in
    puts_same _ _ _ _ _ _ _ c.tell_divergence.ensures (ap (told_text words forwards) (sym c.in-Diverged.is))

unread : (words : List (List ℕ)) (forwards : List Forward) (o : Outcome) → (o ≡ ScheduleRead) ⊎ (o ≡ ScheduleTooLarge) → told_text words forwards ScheduleRead ≡ told_text words forwards o
unread words forwards o (inl is) = ap (told_text words forwards) (sym is)
unread words forwards o (inr is) = ap (told_text words forwards) (sym is)

pub returns-in-ScheduleRead-clause-text : goal.returns-in-ScheduleRead-clause-text
returns-in-ScheduleRead-clause-text g c =
    let words = map string_bytes c.args.words.now in
    let forwards = c.args.forwards.now in
    puts_same _ _ _ _ _ _ _ c.put-in-ScheduleRead.ensures (unread words forwards c.args.outcome.now c.in-ScheduleRead.is)
