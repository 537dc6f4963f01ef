-- The choice: a contract of one kind or of another, which answers as it does. Assumes nothing.
use Rattle.either.specs.declared.Either.{Either}
use Rattle.either.specs.declared.Either.TheVariants.{Left, Right}
use Rattle.instruments.specs.Meaning.{Meaning}

-- the answer of whichever of the two it is
abbrev pub whichever : {A B X : Type 0} → (A → X) → (B → X) → Either A B → X
whichever f g (Left c) = f c
whichever f g (Right c) = g c

abbrev pub either_meaning : {A B : Type 0} → Meaning A → Meaning B → Meaning (Either A B)
either_meaning a b = record {
  check = λ top c. whichever (a.check top) (b.check top) c;
  payoff = λ top c s. whichever (λ x. a.payoff top x s) (λ x. b.payoff top x s) c;
  collateral = λ top c. whichever (a.collateral top) (b.collateral top) c;
  breakpoints = λ top c. whichever (a.breakpoints top) (b.breakpoints top) c;
  breakpoint = λ top c i. whichever (λ x. a.breakpoint top x i) (λ x. b.breakpoint top x i) c;
}
