use Rattle.taps.proofs.Keeping.{kept_on}
use Rattle.taps.proofs.record.RecordBook.note.Goals as goal

pub invariant_of-self : goal.invariant_of-self
invariant_of-self g c =
    let k = c.keep_unless-self-inside.ensures in
    kept_on c.self.invariant k.before k.kept k.rose k.later c.then-self-inside.ensures
