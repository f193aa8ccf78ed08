use Rattle.std.proofs.Common.{◌≡◌, ◌++◌, ◌∷◌, [], false, sym}
use Rattle.command_words.specs.Walking.{IsGiven, completed, given_of, is_both, walk_of}
use Rattle.command_words.proofs.Finding.{match_some}
use Rattle.command_words.proofs.line.Line.fits_option.Goals as goal

pub returns-else-is_given : goal.returns-else-is_given
returns-else-is_given c = rw (c.if-is_given.false) (λ fits.
    c.if-is_given.ensures (match_some (completed (walk_of c.args.self.now) c.args.word.now) (given_of c.in-Some.given) (Unit {0})
    (λ given. IsGiven (walk_of c.args.self.now).verb given × (is_both ((walk_of c.args.self.now).options ++ given ∷ []) ≡ false)) (sym c.in-Some.ensures) fits).0)
