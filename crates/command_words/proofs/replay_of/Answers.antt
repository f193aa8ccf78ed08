use Rattle.std.proofs.Common.{◌≡◌, length, take, ◌∷◌, List, map, string_bytes, sym, ◌∙◌, ap, subst, arith, refl}
use Rattle.std.proofs.lemmas.List.{length-map, length-take}
use Rattle.std.proofs.lemmas.Result.{err_from_is_err_and}
use Rattle.slirp_settings.specs.declared.Denial.{Denial}
use Rattle.slirp_settings.specs.declared.Forward.{Forward}
use Rattle.command_words.specs.declared.Stop.{Stop}
use Rattle.command_words.specs.declared.options.Verb.{Verb}
use Rattle.command_words.specs.declared.options.Verb.TheVariants.{Replay}
use Rattle.command_words.specs.Meaning.{AreSettings, Replays}
use Rattle.command_words.specs.Narrowing.{narrowed_settings}
use Rattle.command_words.specs.Options.{Word, Given, repeated, single, value_in}
use Rattle.address_text.specs.Rules.{AreForwards, AreGuestForwards, guest_words, host_words}
use Rattle.slirp_settings.specs.declared.GuestFwd.{GuestFwd}
use Rattle.command_words.proofs.Guested.{guests_front, whole_guests}
use Rattle.command_words.specs.Stops.{StopsBehind}
use Rattle.command_words.specs.Walking.{AreGiven, AreWanted, Walk, guests_of, kept, kept_guests, own_words, walk_of}
use Rattle.command_words.proofs.Completing.{replay_begins}
use Rattle.command_words.proofs.Denying.{denials_front, whole_denials}
use Rattle.command_words.proofs.Reading.{denials_of}
use Rattle.command_words.specs.Texts.{AreDenials}
use Rattle.command_words.proofs.Meant.{ReplayMeant, one_walk, replay_means, replay_meant}
use Rattle.command_words.proofs.Only.{tail_of}
use Rattle.command_words.proofs.Ruled.{rule_words}
use Rattle.command_words.proofs.Settled.{with_all, with_both, with_lists}
use Rattle.command_words.proofs.Stopping.{replay_stops}
use Rattle.command_words.proofs.Whole.{front_of, rules_front, whole_rules, words_are_guests, words_are_rules}
use Rattle.command_words.proofs.replay_of.Goals as goal

pub returns-in_err-line-clause-refused : goal.returns-in_err-line-clause-refused
returns-in_err-line-clause-refused c =
    let p = err_from_is_err_and c.from_residual.result c.from_residual.ensures.1 in
    rw (p.1) (subst (λ (stop : Stop). StopsBehind ReplayMeant (map string_bytes c.args.words.now) stop) (sym p.2) (replay_stops (map string_bytes c.args.words.now) _ c.in_err-line.ensures.refused))

pub returns-in_default-clause-refused : goal.returns-in_default-clause-refused
returns-in_default-clause-refused c = (
  replay_begins (map string_bytes c.args.words.now) c.in_ok-line.ensures.read.far,
  (λ read_as.
      let (file, config, m) = read_as in
      let r = replay_meant _ file config m in
      let read = c.in_ok-line.ensures.read in
      let same = one_walk Replay (map string_bytes c.args.words.now) read.walk r.walk read.walks r.read in
      let some = ap length (c.alone.ensures ∙ sym (ap (λ (w : Walk). w.alone) read.keeps) ∙ ap (λ (v : Verb). kept (own_words v read.walk.alone)) read.verb_is ∙ ap
      (λ (w : Walk). kept (own_words Replay w.alone)) same ∙ ap (λ (a : List Word). kept (own_words Replay a)) r.alone) in
      absurd (omega (arith, c.in_default.ensures.cases, some, length-map c.alone.result.now (λ word. word.now), length-take 33 (host_words r.rules)))),
)

pub returns-in_default-settings-clause-refused : goal.returns-in_default-settings-clause-refused
returns-in_default-settings-clause-refused c = (
  replay_begins (map string_bytes c.args.words.now) c.in_ok-line.ensures.read.far,
  (λ read_as.
      let (file, config, m) = read_as in
      let r = replay_meant _ file config m in
      let read = c.in_ok-line.ensures.read in
      let same = one_walk Replay (map string_bytes c.args.words.now) read.walk r.walk read.walks r.read in
      let alone = tail_of c.in-Some.file.now.now file (rule_words c.in-Some.rules.now) (take 33 (host_words r.rules))
      (ap rule_words (sym c.in-Some.ensures.cases.0) ∙ c.alone.ensures ∙ sym (ap (λ (w : Walk). w.alone) read.keeps) ∙ ap
      (λ (v : Verb). kept (own_words v read.walk.alone)) read.verb_is ∙ ap (λ (w : Walk). kept (own_words Replay w.alone)) same ∙ ap (λ (a : List Word). kept (own_words Replay a)) r.alone) in
      let options : single r.walk.options ≡ (walk_of c.in_ok-line.line).options = sym (ap (λ (w : Walk). single w.options) same) ∙ ap (λ (w : Walk). w.options) read.keeps in
      let texts : take 9 (repeated r.walk.options) ≡ rule_words c.in_ok-line.denied.items = sym (ap (λ (w : Walk). take 9 (repeated w.options)) same) ∙ read.denies in
      let held = take 9 config.denied in
      let guests = take 17 config.guest_forwards in
      let led : rule_words c.in_ok-line.guests.items ≡ take 17 (guest_words r.rules) = sym read.leads ∙ ap (λ (v : Verb). kept_guests (guests_of v read.walk.alone)) read.verb_is
      ∙ ap (λ (w : Walk). kept_guests (guests_of Replay w.alone)) same ∙ ap (λ (a : List Word). kept_guests (guests_of Replay a)) r.alone in
      let set = subst (λ (o : List Given). AreSettings (value_in o) config) options r.settings in
      let front = take 33 config.forwards in
      c.in_default-settings.ensures.refused (with_lists config front guests held)
      (with_both (value_in (walk_of c.in_ok-line.line).options) config front guests
      (sym (whole_guests (guest_words r.rules) (take 17 (guest_words r.rules)) guests config.guest_forwards refl
      (guests_front 17 (guest_words r.rules) config.guest_forwards r.guests) r.guests)) set)
      (subst (λ (t : List Word). AreForwards t config.dhcp_start front) (sym alone.1) (rules_front 33 (host_words r.rules) config.dhcp_start config.forwards r.forwards))
      (subst (λ (t : List Word). AreGuestForwards t guests) (sym led ∙ ap rule_words (sym c.as_slice.ensures.value)) (guests_front 17 (guest_words r.rules) config.guest_forwards r.guests))
      (subst (λ (t : List Word). AreDenials t held) (texts ∙ ap rule_words (sym c.as_slice-2.ensures.value)) (denials_front 9 (repeated r.walk.options) config.denied r.denied))),
)

pub returns-clause-meant : goal.returns-clause-meant
returns-clause-meant c =
    let file = c.in-Ok.file.bytes in
    let set = c.in-Ok-settings.ensures.set in
    let named = c.in-Ok.ensures.file in
    let read = c.in_ok-line.ensures.read in
    let front = front_of c.in-Some.file.now.now (rule_words c.in-Some.rules.now) read.walk.alone (ap rule_words (sym c.in-Some.ensures.cases.0) ∙ c.alone.ensures ∙ sym
    (ap (λ (w : Walk). w.alone) read.keeps) ∙ ap (λ (v : Verb). kept (own_words v read.walk.alone)) read.verb_is) in
    let wanted = subst (λ (a : List Word). AreWanted Replay a) front.1 (subst (λ (v : Verb). AreWanted v read.walk.alone) read.verb_is read.good.wanted) in
    let whole = whole_rules 33 (host_words front.0) (rule_words c.in-Some.rules.now) set.0.dhcp_start set.0.forwards (omega arith) front.2 (words_are_rules front.0 set.0.dhcp_start wanted.1) set.2 in
    let all = denials_of Replay read.walk.options (subst (λ (v : Verb). AreGiven v read.walk.options) read.verb_is read.good.given) in
    let held = whole_denials (repeated read.walk.options) _ set.0.denied all.0 (read.denies ∙ ap rule_words (sym c.as_slice-2.ensures.value)) set.4 all.1 in
    let leads = words_are_guests front.0 wanted.1 in
    let led = whole_guests (guest_words front.0) _ set.0.guest_forwards leads.0 (ap (λ (a : List Word). kept_guests (guests_of Replay a)) (sym front.1) ∙ ap
    (λ (v : Verb). kept_guests (guests_of v read.walk.alone)) (sym read.verb_is) ∙ read.leads ∙ ap rule_words (sym c.as_slice.ensures.value)) set.3 leads.1 in
    let settings = with_all (value_in (walk_of c.in_ok-line.line).options) set.0 whole.0 leads.0 all.0 led held set.1 in
    let config = with_lists set.0 whole.0 leads.0 all.0 in (
      file,
      config,
      replay_means (map string_bytes c.args.words.now) file config (record {
        walk = read.walk;
        read = read.walks;
        good = read.good;
        rules = front.0;
        alone = front.1 ∙ ap (λ (f : Word). f ∷ front.0) named.0;
        some = named.1;
        fits = named.2;
        forwards = whole.1;
        guests = leads.1;
        settings = subst (λ (o : List Given). AreSettings (value_in o) config) (sym (ap (λ (w : Walk). w.options) read.keeps)) settings;
        denied = all.1;
      }),
      ap (Replays file) (set.5 ∙ ap (λ (f : List Forward). record (narrowed_settings set.0) { forwards = f }) whole.2
          ∙ ap (λ (g : List GuestFwd). record (narrowed_settings (record set.0 { forwards = whole.0 })) { guest_forwards = g }) led
          ∙ ap (λ (ds : List Denial). record (narrowed_settings (record set.0 { forwards = whole.0; guest_forwards = leads.0 })) { denied = ds }) held),
    )
