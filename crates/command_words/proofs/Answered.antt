-- What is answered to words by what they mean, and by the command that was read of them.
use Rattle.std.proofs.Common.{◌≡◌, Option, Some, None, option_map, Result, Ok, Err, IfOk, IfErr, MatchOption, refl, sym, ◌∙◌, ap, subst}
use Rattle.slirp_settings.specs.Addresses.{Config}
use Rattle.slirp_settings.specs.Ranges.{IsSound}
use Rattle.command_words.specs.declared.Setting.{Setting}
use Rattle.command_words.specs.declared.Setting.TheVariants.{Of}
use Rattle.command_words.specs.declared.Command.{Command}
use Rattle.command_words.specs.declared.WordFault.{WordFault}
use Rattle.command_words.specs.declared.WordFault.TheVariants.{BadConfig}
use Rattle.command_words.specs.Meaning.{Meaning, Replays, Serves, Drives, Helps, TellsVersion, AnswersBy, broken_in, config_of, said}
use Rattle.command_words.specs.Narrowing.{narrowed_meaning}
use Rattle.command_words.proofs.Narrow.{same_broken, same_settings}

pub record IsAnswer (Of : Meaning → Type 0) (result : Result Command WordFault) : Type 0 where
  pub meant : IfOk result (λ command. Of (said command))
  pub bad_config : (setting : Setting) → result ≡ Err (BadConfig setting) → (meaning : Meaning) × Of meaning × (broken_in meaning ≡ Some setting)
  pub only : (meaning : Meaning) → Of meaning → AnswersBy result meaning

broken_still : (meaning : Meaning) → broken_in (narrowed_meaning meaning) ≡ broken_in meaning
broken_still (Replays file config) = ap (option_map Of) (same_broken config)
broken_still (Serves config at tap) = ap (option_map Of) (same_broken config)
broken_still (Drives number octets) = refl
broken_still Helps = refl
broken_still TellsVersion = refl

nothing_narrowed : (meaning : Meaning) → IsSound (config_of (narrowed_meaning meaning)) → narrowed_meaning meaning ≡ meaning
nothing_narrowed (Replays file config) sound = ap (Replays file) (same_settings config sound)
nothing_narrowed (Serves config at tap) sound = ap (λ (c : Config). Serves c at tap) (same_settings config sound)
nothing_narrowed (Drives number octets) sound = refl
nothing_narrowed Helps sound = refl
nothing_narrowed TellsVersion sound = refl

module _ (Of : Meaning → Type 0) (one : (m n : Meaning) → Of m → Of n → m ≡ n) where
  -- of a command whose settings are checked
  pub answered : (command : Command) (meaning : Meaning) → Of meaning → said command ≡ narrowed_meaning meaning → (result : Result Command WordFault)
      → IfOk result (λ c. said c ≡ said command) → IfOk result (λ c. IsSound (config_of (said c)))
      → IfOk result (λ c. broken_in (said command) ≡ None)
      → IfErr result (λ fault. (setting : Setting) × (fault ≡ BadConfig setting) × (broken_in (said command) ≡ Some setting))
      → IsAnswer Of result
  answered command meaning of is (Ok c) same sound whole broken =
      let meant : said c ≡ meaning = same ∙ is ∙ nothing_narrowed meaning (subst (λ (m : Meaning). IsSound (config_of m)) (same ∙ is) sound) in
      let none : broken_in meaning ≡ None = sym (broken_still meaning) ∙ ap broken_in (sym is) ∙ whole in
      record {
        meant = subst Of (sym meant) of;
        bad_config = λ setting h. absurd (cc h);
        only = λ m h. let e : m ≡ meaning = one m meaning h of in
            let quiet : broken_in m ≡ None = ap broken_in e ∙ none in
            subst (λ (o : Option Setting). MatchOption o ((command : Command) × (◌≡◌ {A = Result Command WordFault} (Ok c) (Ok command)) × (said command ≡ m))
            (λ setting. ◌≡◌ {A = Result Command WordFault} (Ok c) (Err (BadConfig setting)))) (sym quiet) (c, refl, meant ∙ sym e);
      }
  answered command meaning of is (Err fault) same sound whole broken =
      let setting = broken.0 in
      let named : broken_in meaning ≡ Some setting = sym (broken_still meaning) ∙ ap broken_in (sym is) ∙ broken.2 in
      let fault_is : ◌≡◌ {A = Result Command WordFault} (Err fault) (Err (BadConfig setting)) = ap (λ (f : WordFault). Err f) broken.1 in
      record {
        meant = tt;
        bad_config = λ other h. (
          meaning,
          of,
          named ∙ (let same_fault : ◌≡◌ {A = Result Command WordFault} (Err (BadConfig setting)) (Err (BadConfig other)) = sym fault_is
              ∙ h in let e : setting ≡ other = cc in ap (λ (f : Setting). Some f) e),
        );
        only = λ m h. let e : m ≡ meaning = one m meaning h of in
            let there : broken_in m ≡ Some setting = ap broken_in e ∙ named in
            subst (λ (o : Option Setting). MatchOption o ((command : Command) × (◌≡◌ {A = Result Command WordFault} (Err fault) (Ok command)) × (said command ≡ m))
            (λ setting. ◌≡◌ {A = Result Command WordFault} (Err fault) (Err (BadConfig setting)))) (sym there) fault_is;
      }
