-- A choice keeps the rules where both kinds do. Assumes nothing.
use Rattle.either.specs.declared.Either.TheVariants.{Left, Right}
use Rattle.instruments.specs.Either.{either_meaning}
use Rattle.instruments.specs.Meaning.{Meaning}
use Rattle.instruments.specs.Rules.{Rules, KeepsRules}

pub either-rules : {A B : Type 0} (a : Meaning A) (b : Meaning B) → Rules a → Rules b → Rules (either_meaning a b)
either-rules a b ra rb top (Left c) ceil valid =
    let kept : KeepsRules a top c = ra top c ceil valid in
    record {
      covered = kept.covered;
      bounded = kept.bounded;
      few = kept.few;
      inside = kept.inside;
      straight = λ s at. kept.straight s (record { above = at.above; below = at.below; off = at.off });
    }
either-rules a b ra rb top (Right c) ceil valid =
    let kept : KeepsRules b top c = rb top c ceil valid in
    record {
      covered = kept.covered;
      bounded = kept.bounded;
      few = kept.few;
      inside = kept.inside;
      straight = λ s at. kept.straight s (record { above = at.above; below = at.below; off = at.off });
    }
