-- What words mean, by the walk over them.
use Rattle.std.proofs.Common.{◌≡◌, ℕ, ◌<◌, ◌≤◌, Bool, true, false, ◌&&◌, List, [], ◌∷◌, length, bytes_eq, codes, Option, Some, None, MatchOption, is_some, refl, sym, ◌∙◌, ap, subst}
use Rattle.slirp_settings.specs.Addresses.{Config}
use Rattle.world_face.specs.Journal.{Place}
use Rattle.command_words.specs.declared.Tap.{Tap}
use Rattle.command_words.specs.declared.Tap.TheVariants.{Off, Record, Capture}
use Rattle.command_words.specs.declared.options.Kind.TheVariants.{Link}
use Rattle.command_words.specs.declared.options.Verb.{Verb}
use Rattle.command_words.specs.declared.options.Verb.TheVariants.{Replay, Serve}
use Rattle.command_words.specs.Meaning.{AreSettings, IsTap, MeansReplay, MeansServe, is_capture, is_record}
use Rattle.command_words.specs.Options.{Word, Given, Piece, Apart, Joined, Flag, Plain, ArePieces, words_alone, options_of, repeated, single, takes_value, value_in}
use Rattle.address_text.specs.Rules.{AreForwards, AreGuestForwards, AreRules, guest_words, host_words}
use Rattle.command_words.specs.Texts.{AreDenials, IsLink}
use Rattle.command_words.specs.Values.{CanHave}
use Rattle.command_words.specs.Walking.{AreWanted, IsGood, Walk, walked}
use Rattle.command_words.proofs.Names.{same_text}
use Rattle.command_words.proofs.Reading.{all_given, settings_read, weaken}
use Rattle.command_words.proofs.Back.{same_walk}
use Rattle.command_words.proofs.Single.{both_single, link_single, none_repeated}
use Rattle.command_words.proofs.Walks.{arrived, line_walked, walk_read}
use Rattle.command_words.proofs.Whole.{rules_are_words}

-- a name that a command doesn't have isn't given
other_name : (verb : Verb) (word name : Word) (b : Bool) → takes_value verb word ≡ Some b → takes_value verb name ≡ None → bytes_eq word name ≡ false
other_name verb word name b takes none = by_test (bytes_eq word name) refl
  where
    by_test : (t : Bool) → bytes_eq word name ≡ t → t ≡ false
    by_test true e = let clash : ◌≡◌ {A = Option Bool} None (Some b) = sym none ∙ ap (takes_value verb) (sym (same_text word name e)) ∙ takes in absurd (cc clash)
    by_test false e = refl

unnamed : (verb : Verb) (name : Word) → takes_value verb name ≡ None → (pieces : List Piece) → ArePieces verb pieces → is_some (value_in (options_of pieces) name) ≡ false
unnamed verb name none [] are = refl
unnamed verb name none (Plain word ∷ pieces) are = unnamed verb name none pieces are.1
unnamed verb name none (Flag word ∷ pieces) are = rw (other_name verb word name false are.0 none) (unnamed verb name none pieces are.1)
unnamed verb name none (Joined word value ∷ pieces) are = rw (other_name verb word name true are.0.0 none) (unnamed verb name none pieces are.1)
unnamed verb name none (Apart word value ∷ pieces) are = rw (other_name verb word name true are.0.0 none) (unnamed verb name none pieces are.1)

pub record ReplayRead (words : List Word) (file : Word) (config : Config) : Type 0 where
  pub walk : Walk
  pub read : walked Replay words ≡ Some walk
  pub good : IsGood walk
  pub rules : List Word
  pub alone : walk.alone ≡ file ∷ rules
  pub some : 0 < length file
  pub fits : length file ≤ 1280
  pub forwards : AreForwards (host_words rules) config.dhcp_start config.forwards
  pub guests : AreGuestForwards (guest_words rules) config.guest_forwards
  pub settings : AreSettings (value_in (single walk.options)) config
  pub denied : AreDenials (repeated walk.options) config.denied

pub replay_means : (words : List Word) (file : Word) (config : Config) → ReplayRead words file config → MeansReplay words file config
replay_means words file config r =
    let l = walk_read Replay words r.walk r.read in (
      l.line,
      r.rules,
      l.encoded,
      l.proper,
      sym l.alone ∙ r.alone,
      r.some,
      r.fits,
      (r.forwards, r.guests),
      subst (λ (o : List Given). AreSettings (value_in (single o)) config) l.options r.settings,
      subst (λ (o : List Given). AreDenials (repeated o) config.denied) l.options r.denied,
    )

pub replay_meant : (words : List Word) (file : Word) (config : Config) → MeansReplay words file config → ReplayRead words file config
replay_meant words file config m = record {
  walk = arrived Replay (options_of m.0.pieces) (words_alone m.0) (is_some m.0.behind);
  read = ap (walked Replay) m.2 ∙ line_walked Replay m.0 m.3;
  good = record {
    wanted = subst (λ (a : List Word). AreWanted Replay a) (sym m.4) ((m.5, m.6), rules_are_words m.1 config.dhcp_start config.forwards config.guest_forwards m.7.0 m.7.1);
    given = all_given Replay (options_of m.0.pieces) config.denied m.3.1
        (settings_read Replay (value_in (single (options_of m.0.pieces))) config m.8 (none_repeated (options_of m.0.pieces)) (λ is. absurd (cc is))) m.9;
    one = ap (λ (b : Bool). b && is_some (value_in (options_of m.0.pieces) (codes "--capture"))) (unnamed Replay (codes "--record") refl m.0.pieces m.3.0);
    linked = λ ended. refl;
  };
  rules = m.1;
  alone = m.4;
  some = m.5;
  fits = m.6;
  forwards = m.7.0;
  guests = m.7.1;
  settings = m.8;
  denied = m.9;
}

-- the link is told, and is at this place
abbrev pub IsLinkAt : Option Word → Place → Type 0
IsLinkAt given at = MatchOption given ⊥ (λ text. IsLink text at)

is_told : (given : Option Word) (at : Place) → IsLinkAt given at → is_some given ≡ true
is_told None at h = absurd h
is_told (Some text) at h = refl

one_tap : (tap : Tap) → is_record tap && is_capture tap ≡ false
one_tap Off = refl
one_tap Record = refl
one_tap Capture = refl

not_both : (given : Word → Option Word) (tap : Tap) → IsTap given tap → is_some (given (codes "--record")) && is_some (given (codes "--capture")) ≡ false
not_both given tap is =
    ap (λ (b : Bool). b && is_some (given (codes "--capture"))) is.0 ∙ ap (λ (b : Bool). is_record tap && b) is.1 ∙ one_tap tap

pub record ServeRead (words : List Word) (config : Config) (at : Place) (tap : Tap) : Type 0 where
  pub walk : Walk
  pub read : walked Serve words ≡ Some walk
  pub good : IsGood walk
  pub link : IsLinkAt (value_in (single walk.options) (codes "--link")) at
  pub taps : IsTap (value_in (single walk.options)) tap
  pub forwards : AreForwards (host_words walk.alone) config.dhcp_start config.forwards
  pub guests : AreGuestForwards (guest_words walk.alone) config.guest_forwards
  pub settings : AreSettings (value_in (single walk.options)) config
  pub denied : AreDenials (repeated walk.options) config.denied

pub serve_means : (words : List Word) (config : Config) (at : Place) (tap : Tap) → ServeRead words config at tap → MeansServe words config at tap
serve_means words config at tap r =
    let l = walk_read Serve words r.walk r.read in (
      l.line,
      l.encoded,
      l.proper,
      subst (λ (o : List Given). IsLinkAt (value_in (single o) (codes "--link")) at) l.options r.link,
      subst (λ (o : List Given). IsTap (value_in (single o)) tap) l.options r.taps,
      subst (λ (a : List Word). AreRules a config.dhcp_start config.forwards config.guest_forwards) l.alone (r.forwards, r.guests),
      subst (λ (o : List Given). AreSettings (value_in (single o)) config) l.options r.settings,
      subst (λ (o : List Given). AreDenials (repeated o) config.denied) l.options r.denied,
    )

pub serve_meant : (words : List Word) (config : Config) (at : Place) (tap : Tap) → MeansServe words config at tap → ServeRead words config at tap
serve_meant words config at tap m = record {
  walk = arrived Serve (options_of m.0.pieces) (words_alone m.0) (is_some m.0.behind);
  read = ap (walked Serve) m.1 ∙ line_walked Serve m.0 m.2;
  good = record {
    wanted = rules_are_words (words_alone m.0) config.dhcp_start config.forwards config.guest_forwards m.5.0 m.5.1;
    given = all_given Serve (options_of m.0.pieces) config.denied m.2.1 (settings_read Serve (value_in (single (options_of m.0.pieces))) config m.6 (none_repeated (options_of m.0.pieces))
        (λ is. weaken (value_in (single (options_of m.0.pieces)) (codes "--link")) ⊥ (λ text. IsLink text at) (CanHave Link) (λ text h. (at, h)) m.3)) m.7;
    one = sym (both_single (options_of m.0.pieces)) ∙ not_both (value_in (single (options_of m.0.pieces))) tap m.4;
    linked = λ ended. sym (link_single Serve (options_of m.0.pieces)) ∙ is_told (value_in (single (options_of m.0.pieces)) (codes "--link")) at m.3;
  };
  link = m.3;
  taps = m.4;
  forwards = m.5.0;
  guests = m.5.1;
  settings = m.6;
  denied = m.7;
}

-- words have one walk
pub one_walk : (verb : Verb) (words : List Word) (v w : Walk) → walked verb words ≡ Some v → walked verb words ≡ Some w → v ≡ w
one_walk verb words v w hv hw = same_walk v w (sym hv ∙ hw)

abbrev pub ReplayMeant : List Word → Type 0
ReplayMeant words = (file : List ℕ) × (config : Config) × MeansReplay words file config

abbrev pub ServeMeant : List Word → Type 0
ServeMeant words = (config : Config) × (at : Place) × (tap : Tap) × MeansServe words config at tap
