use Rattle.std.proofs.Common.{◌≡◌, ◌&&◌, Bool, true, false, is_some, map, codes, List, Option, string_bytes, take, sym, ◌∙◌, ap, subst, arith, refl}
use Rattle.std.proofs.lemmas.Result.{err_from_is_err_and}
use Rattle.slirp_settings.specs.Addresses.{Config}
use Rattle.slirp_settings.specs.declared.Denial.{Denial}
use Rattle.slirp_settings.specs.declared.Forward.{Forward}
use Rattle.world_face.specs.Journal.{place_of}
use Rattle.command_words.specs.declared.Stop.{Stop}
use Rattle.command_words.specs.declared.options.Verb.{Verb}
use Rattle.command_words.specs.declared.options.Verb.TheVariants.{Serve}
use Rattle.command_words.specs.Meaning.{AreSettings, IsTap, Serves}
use Rattle.command_words.specs.Narrowing.{narrowed_settings}
use Rattle.command_words.specs.Options.{Word, Given, repeated, single, value_in}
use Rattle.address_text.specs.Rules.{AreForwards, AreGuestForwards, guest_words, host_words}
use Rattle.slirp_settings.specs.declared.GuestFwd.{GuestFwd}
use Rattle.command_words.proofs.Guested.{guests_front, whole_guests}
use Rattle.command_words.specs.Stops.{StopsBehind}
use Rattle.command_words.specs.Texts.{IsLink}
use Rattle.command_words.specs.Walking.{AreGiven, AreWanted, Walk, is_both, guests_of, kept, kept_guests, own_words, walk_of}
use Rattle.command_words.proofs.Finding.{match_some}
use Rattle.command_words.proofs.Completing.{serve_begins}
use Rattle.command_words.proofs.Denying.{denials_front, whole_denials}
use Rattle.command_words.proofs.Reading.{denials_of}
use Rattle.command_words.specs.Texts.{AreDenials}
use Rattle.command_words.proofs.Meant.{IsLinkAt, ServeMeant, one_walk, serve_means, serve_meant}
use Rattle.command_words.proofs.Single.{both_single}
use Rattle.command_words.proofs.Stopping.{serve_stops}
use Rattle.command_words.proofs.Settled.{with_all, with_both, with_lists}
use Rattle.command_words.proofs.Ruled.{rule_words}
use Rattle.command_words.proofs.Whole.{rules_front, whole_rules, words_are_guests, words_are_rules}
use Rattle.command_words.proofs.serve_of.Goals as goal

pub returns-in_err-line-clause-refused : goal.returns-in_err-line-clause-refused
returns-in_err-line-clause-refused c =
    let p = err_from_is_err_and c.from_residual.result c.from_residual.ensures.1 in
    rw (p.1) (subst (λ (stop : Stop). StopsBehind ServeMeant (map string_bytes c.args.words.now) stop) (sym p.2) (serve_stops (map string_bytes c.args.words.now) _ c.in_err-line.ensures.refused))

pub returns-in_default-clause-refused : goal.returns-in_default-clause-refused
returns-in_default-clause-refused c = (
  serve_begins (map string_bytes c.args.words.now) c.in_ok-line.ensures.read.far,
  (λ read_as.
      let (config, at, tap, m) = read_as in
      let r = serve_meant _ config at tap m in
      let read = c.in_ok-line.ensures.read in
      let same = one_walk Serve (map string_bytes c.args.words.now) r.walk read.walk r.read read.walks in
      let options : single r.walk.options ≡ (walk_of c.in_ok-line.line).options = ap (λ (w : Walk). single w.options) same ∙ ap (λ (w : Walk). w.options) read.keeps in
      let link = subst (λ (o : List Given). IsLinkAt (value_in o (codes "--link")) at) options r.link in
      subst (λ (o : Option Word). IsLinkAt o at) (sym c.in_default.ensures) link),
)

pub returns-in_default-read_link-clause-refused : goal.returns-in_default-read_link-clause-refused
returns-in_default-read_link-clause-refused c = (
  serve_begins (map string_bytes c.args.words.now) c.in_ok-line.ensures.read.far,
  (λ read_as.
      let (config, at, tap, m) = read_as in
      let r = serve_meant _ config at tap m in
      let read = c.in_ok-line.ensures.read in
      let same = one_walk Serve (map string_bytes c.args.words.now) r.walk read.walk r.read read.walks in
      let options : single r.walk.options ≡ (walk_of c.in_ok-line.line).options = ap (λ (w : Walk). single w.options) same ∙ ap (λ (w : Walk). w.options) read.keeps in
      let link = subst (λ (o : List Given). IsLinkAt (value_in o (codes "--link")) at) options r.link in
      c.in_default-read_link.ensures.refused at (match_some _ c.in-Some.link.now ⊥ (λ text. IsLink text at) (sym c.in-Some.ensures) link)),
)

pub returns-in_default-tap_of-clause-refused : goal.returns-in_default-tap_of-clause-refused
returns-in_default-tap_of-clause-refused c =
    let read = c.in_ok-line.ensures.read in
    let given = value_in (walk_of c.in_ok-line.line).options in
    let both = c.in_default-tap_of.ensures.refused in
    let none : is_both (walk_of c.in_ok-line.line).options ≡ false = ap (λ (w : Walk). is_both w.options) (sym read.keeps) ∙ both_single read.walk.options ∙ read.good.one in
    let all : is_both (walk_of c.in_ok-line.line).options ≡ true = ap (λ (b : Bool). b && is_some (given (codes "--capture"))) (sym c.has.ensures ∙ both.0) ∙ sym c.has-2.ensures ∙ both.1 in
    (serve_begins (map string_bytes c.args.words.now) read.far, (λ read_as. absurd (let clash : true ≡ false = sym all ∙ none in cc clash)))

pub returns-in_default-settings-clause-refused : goal.returns-in_default-settings-clause-refused
returns-in_default-settings-clause-refused c = (
  serve_begins (map string_bytes c.args.words.now) c.in_ok-line.ensures.read.far,
  (λ read_as.
      let (config, at, tap, m) = read_as in
      let r = serve_meant _ config at tap m in
      let read = c.in_ok-line.ensures.read in
      let same = one_walk Serve (map string_bytes c.args.words.now) r.walk read.walk r.read read.walks in
      let options : single r.walk.options ≡ (walk_of c.in_ok-line.line).options = ap (λ (w : Walk). single w.options) same ∙ ap (λ (w : Walk). w.options) read.keeps in
      let front = take 34 config.forwards in
      let texts : take 9 (repeated r.walk.options) ≡ rule_words c.in_ok-line.denied.items = ap (λ (w : Walk). take 9 (repeated w.options)) same ∙ read.denies in
      let held = take 9 config.denied in
      let guests = take 17 config.guest_forwards in
      let led : take 17 (guest_words r.walk.alone) ≡ rule_words c.in_ok-line.guests.items = ap (λ (w : Walk). take 17 (guest_words w.alone)) same ∙ ap
      (λ (v : Verb). take 17 (guests_of v read.walk.alone)) (sym read.verb_is) ∙ read.leads in
      let set = subst (λ (o : List Given). AreSettings (value_in o) config) options r.settings in
      c.in_default-settings.ensures.refused (with_lists config front guests held)
      (with_both (value_in (walk_of c.in_ok-line.line).options) config front guests
      (sym (whole_guests (guest_words r.walk.alone) (take 17 (guest_words r.walk.alone)) guests config.guest_forwards refl
      (guests_front 17 (guest_words r.walk.alone) config.guest_forwards r.guests) r.guests)) set)
      (subst (λ (t : List Word). AreForwards t config.dhcp_start front) (ap (λ (w : Walk). kept (host_words w.alone)) same ∙ ap (λ (v : Verb). kept (own_words v read.walk.alone))
      (sym read.verb_is) ∙ ap (λ (w : Walk). w.alone) read.keeps ∙ sym c.alone.ensures)
      (rules_front 34 (host_words r.walk.alone) config.dhcp_start config.forwards r.forwards))
      (subst (λ (t : List Word). AreGuestForwards t guests) (led ∙ ap rule_words (sym c.as_slice.ensures.value)) (guests_front 17 (guest_words r.walk.alone) config.guest_forwards r.guests))
      (subst (λ (t : List Word). AreDenials t held) (texts ∙ ap rule_words (sym c.as_slice-2.ensures.value)) (denials_front 9 (repeated r.walk.options) config.denied r.denied))),
)

pub returns-clause-meant : goal.returns-clause-meant
returns-clause-meant c =
    let at = place_of c.in-Ok.at in
    let set = c.in-Ok-settings.ensures.set in
    let read = c.in_ok-line.ensures.read in
    let given = value_in (walk_of c.in_ok-line.line).options in
    let options : (walk_of c.in_ok-line.line).options ≡ single read.walk.options = sym (ap (λ (w : Walk). w.options) read.keeps) in
    let link : IsLinkAt (given (codes "--link")) at = subst (λ (o : Option Word). IsLinkAt o at) c.in-Some.ensures c.in-Ok.ensures.link in
    let taps : IsTap given c.in-Ok-tap_of.tap = (sym c.has.ensures ∙ c.in-Ok-tap_of.ensures.recorded, sym c.has-2.ensures ∙ c.in-Ok-tap_of.ensures.captured) in
    let whole = whole_rules 34 (host_words read.walk.alone) _ set.0.dhcp_start set.0.forwards (omega arith)
    (ap (λ (v : Verb). kept (own_words v read.walk.alone)) (sym read.verb_is) ∙ ap (λ (w : Walk). w.alone) read.keeps ∙ sym c.alone.ensures)
    (words_are_rules read.walk.alone set.0.dhcp_start (subst (λ (v : Verb). AreWanted v read.walk.alone) read.verb_is read.good.wanted)) set.2 in
    let all = denials_of Serve read.walk.options (subst (λ (v : Verb). AreGiven v read.walk.options) read.verb_is read.good.given) in
    let held = whole_denials (repeated read.walk.options) _ set.0.denied all.0 (read.denies ∙ ap rule_words (sym c.as_slice-2.ensures.value)) set.4 all.1 in
    let wanted = subst (λ (v : Verb). AreWanted v read.walk.alone) read.verb_is read.good.wanted in
    let leads = words_are_guests read.walk.alone wanted in
    let led = whole_guests (guest_words read.walk.alone) _ set.0.guest_forwards leads.0
    (ap (λ (v : Verb). kept_guests (guests_of v read.walk.alone)) (sym read.verb_is) ∙ read.leads ∙ ap rule_words (sym c.as_slice.ensures.value)) set.3 leads.1 in
    let config = with_lists set.0 whole.0 leads.0 all.0 in
    let settings : AreSettings given config = with_all given set.0 whole.0 leads.0 all.0 led held set.1 in (
      config,
      at,
      c.in-Ok-tap_of.tap,
      serve_means (map string_bytes c.args.words.now) config at c.in-Ok-tap_of.tap (record {
        walk = read.walk;
        read = read.walks;
        good = read.good;
        link = subst (λ (o : List Given). IsLinkAt (value_in o (codes "--link")) at) options link;
        taps = subst (λ (o : List Given). IsTap (value_in o) c.in-Ok-tap_of.tap) options taps;
        forwards = whole.1;
        guests = leads.1;
        settings = subst (λ (o : List Given). AreSettings (value_in o) config) options settings;
        denied = all.1;
      }),
      ap (λ (config : Config). Serves config at c.in-Ok-tap_of.tap) (set.5 ∙ ap (λ (f : List Forward). record (narrowed_settings set.0) { forwards = f }) whole.2
          ∙ ap (λ (g : List GuestFwd). record (narrowed_settings (record set.0 { forwards = whole.0 })) { guest_forwards = g }) led
          ∙ ap (λ (ds : List Denial). record (narrowed_settings (record set.0 { forwards = whole.0; guest_forwards = leads.0 })) { denied = ds }) held),
    )
