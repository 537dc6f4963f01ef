-- The table of worked contracts: what the definitions answer, all under the ceiling 200. Assumes nothing.
use Rattle.std.specs.Prelude.{◌≡◌, ℕ, List, [], ◌∷◌, map, Ok, Err}
use Rattle.instruments.specs.declared.faults.Reason.TheVariants.{Strike, Edges, Breakpoints, Collateral}
use Rattle.instruments.specs.declared.faults.Place.TheVariants.{Whole, First, Second}
use Rattle.instruments.specs.declared.options.Vanilla.{Vanilla}
use Rattle.instruments.specs.declared.options.Vanilla.TheVariants.{Call, Put}
use Rattle.instruments.specs.declared.spreads.Spread.{Spread}
use Rattle.instruments.specs.declared.spreads.Spread.TheVariants.{Rising, Falling}
use Rattle.instruments.specs.declared.pairs.Pair.{Pair}
use Rattle.either.specs.declared.Either.{Either}
use Rattle.either.specs.declared.Either.TheVariants.{Left, Right}
use Rattle.instruments.specs.Faults.{reason_number, place_number}
use Rattle.instruments.specs.Meaning.{Meaning, Verdict}
use Rattle.instruments.specs.Vanilla.{vanilla_meaning}
use Rattle.instruments.specs.Spread.{spread_meaning}
use Rattle.instruments.specs.Pair.{pair_meaning}
use Rattle.instruments.specs.Either.{either_meaning}

abbrev pub table_ceiling : ℕ
table_ceiling = 200

-- the numbers of a fault's reason and place; nothing for a valid contract
abbrev pub fault_numbers : Verdict → List ℕ
fault_numbers (Ok u) = []
fault_numbers (Err f) = reason_number f.reason ∷ place_number f.place ∷ []

-- the columns of the table
module _ {C : Type 0} (m : Meaning C) (c : C) where
  abbrev pub fault : List ℕ
  fault = fault_numbers (m.check table_ceiling c)

  -- at each of these prices
  abbrev pub pays : List ℕ → List ℕ
  pays prices = map (m.payoff table_ceiling c) prices

  abbrev pub collateral_of : ℕ
  collateral_of = m.collateral table_ceiling c

  abbrev pub breakpoints_of : ℕ
  breakpoints_of = m.breakpoints table_ceiling c

  -- at each of these indexes
  abbrev pub breakpoints_at : List ℕ → List ℕ
  breakpoints_at indexes = map (m.breakpoint table_ceiling c) indexes

abbrev pub both : {A B : Type 0} → A → B → Pair A B
both a b = record { first = a; second = b }

-- the kinds of the table: an option, pairs of options, pairs of such pairs, and choices
abbrev pub Two : Type 0
Two = Pair Vanilla Vanilla

abbrev pub Four : Type 0
Four = Pair Two Two

abbrev pub Eight : Type 0
Eight = Pair Four Four

abbrev pub one : Meaning Vanilla
one = vanilla_meaning

abbrev pub two : Meaning Two
two = pair_meaning one one

abbrev pub four : Meaning Four
four = pair_meaning two two

abbrev pub eight : Meaning Eight
eight = pair_meaning four four

abbrev pub nine : Meaning (Pair Eight Vanilla)
nine = pair_meaning eight one

abbrev pub spread : Meaning Spread
spread = spread_meaning

abbrev pub option_or_spread : Meaning (Either Vanilla Spread)
option_or_spread = either_meaning one spread

abbrev pub option_or_pair : Meaning (Either Vanilla Two)
option_or_pair = either_meaning one two

-- Each option has one breakpoint for a collateral of at most 100,000, and a spread two, so 8 breakpoints
-- of the built kinds never come near the limit on collateral. A kind with none shows that limit.
abbrev pub constant : Meaning ℕ
constant = record {
  check = λ top n. Ok tt;
  payoff = λ top n s. n;
  collateral = λ top n. n;
  breakpoints = λ top n. 0;
  breakpoint = λ top n i. 0;
}

-- the contracts that stand in several rows
abbrev pub straddle : Two
straddle = both (Call 100) (Put 100)

abbrev pub four_options : Four
four_options = both straddle (both (Call 120) (Put 80))

abbrev pub eight_options : Eight
eight_options = both four_options four_options

abbrev pub nine_options : Pair Eight Vanilla
nine_options = both eight_options (Call 100)

pub record WorkedOptions : Type 0 where
  pub call_pays : pays one (Call 110) (0 ∷ 109 ∷ 110 ∷ 111 ∷ 130 ∷ 200 ∷ 201 ∷ []) ≡ 0 ∷ 0 ∷ 0 ∷ 1 ∷ 20 ∷ 90 ∷ 0 ∷ []
  pub call_collateral : collateral_of one (Call 110) ≡ 90
  pub call_count : breakpoints_of one (Call 110) ≡ 1
  pub call_breakpoints : breakpoints_at one (Call 110) (0 ∷ 1 ∷ []) ≡ 110 ∷ 0 ∷ []
  pub put_pays : pays one (Put 150) (0 ∷ 149 ∷ 150 ∷ 151 ∷ 200 ∷ 201 ∷ []) ≡ 150 ∷ 1 ∷ 0 ∷ 0 ∷ 0 ∷ 0 ∷ []
  pub put_collateral : collateral_of one (Put 150) ≡ 150
  pub put_count : breakpoints_of one (Put 150) ≡ 1
  pub put_breakpoints : breakpoints_at one (Put 150) (0 ∷ 1 ∷ []) ≡ 150 ∷ 0 ∷ []
  -- the lowest and the highest strike
  pub lowest_fault : fault one (Call 1) ≡ []
  pub lowest_pays : pays one (Call 1) (0 ∷ 1 ∷ 2 ∷ 200 ∷ []) ≡ 0 ∷ 0 ∷ 1 ∷ 199 ∷ []
  pub highest_fault : fault one (Put 200) ≡ []
  pub highest_pays : pays one (Put 200) (0 ∷ 199 ∷ 200 ∷ []) ≡ 200 ∷ 1 ∷ 0 ∷ []
  -- reason 1, and what an invalid option answers
  pub strike_low : fault one (Call 0) ≡ 1 ∷ 0 ∷ []
  pub strike_high : fault one (Put 201) ≡ 1 ∷ 0 ∷ []
  pub strike_high_pays : pays one (Put 201) (0 ∷ 100 ∷ 200 ∷ 201 ∷ []) ≡ 0 ∷ 0 ∷ 0 ∷ 0 ∷ []
  pub strike_high_collateral : collateral_of one (Put 201) ≡ 0
  pub strike_high_count : breakpoints_of one (Put 201) ≡ 0
  pub strike_high_breakpoints : breakpoints_at one (Put 201) (0 ∷ 1 ∷ []) ≡ 0 ∷ 0 ∷ []

pub record WorkedSpreads : Type 0 where
  pub rising_pays : pays spread (Rising 100 120) (0 ∷ 90 ∷ 100 ∷ 101 ∷ 110 ∷ 119 ∷ 120 ∷ 130 ∷ 200 ∷ 201 ∷ []) ≡ 0 ∷ 0 ∷ 0 ∷ 1 ∷ 10 ∷ 19 ∷ 20 ∷ 20 ∷ 20 ∷ 0 ∷ []
  pub rising_collateral : collateral_of spread (Rising 100 120) ≡ 20
  pub rising_count : breakpoints_of spread (Rising 100 120) ≡ 2
  pub rising_breakpoints : breakpoints_at spread (Rising 100 120) (0 ∷ 1 ∷ 2 ∷ []) ≡ 100 ∷ 120 ∷ 0 ∷ []
  pub falling_pays : pays spread (Falling 100 120) (0 ∷ 90 ∷ 100 ∷ 101 ∷ 110 ∷ 119 ∷ 120 ∷ 130 ∷ 200 ∷ 201 ∷ []) ≡ 20 ∷ 20 ∷ 20 ∷ 19 ∷ 10 ∷ 1 ∷ 0 ∷ 0 ∷ 0 ∷ 0 ∷ []
  pub falling_collateral : collateral_of spread (Falling 100 120) ≡ 20
  pub falling_breakpoints : breakpoints_at spread (Falling 100 120) (0 ∷ 1 ∷ 2 ∷ []) ≡ 100 ∷ 120 ∷ 0 ∷ []
  -- the widest spread
  pub widest_fault : fault spread (Rising 0 200) ≡ []
  pub widest_pays : pays spread (Rising 0 200) (0 ∷ 100 ∷ 200 ∷ 201 ∷ []) ≡ 0 ∷ 100 ∷ 200 ∷ 0 ∷ []
  -- reason 2, and what an invalid spread answers
  pub edges_crossed : fault spread (Rising 120 100) ≡ 2 ∷ 0 ∷ []
  pub edges_met : fault spread (Falling 100 100) ≡ 2 ∷ 0 ∷ []
  pub edges_high : fault spread (Falling 100 201) ≡ 2 ∷ 0 ∷ []
  pub edges_high_pays : pays spread (Falling 100 201) (0 ∷ 150 ∷ 200 ∷ 201 ∷ []) ≡ 0 ∷ 0 ∷ 0 ∷ 0 ∷ []
  pub edges_high_collateral : collateral_of spread (Falling 100 201) ≡ 0
  pub edges_high_count : breakpoints_of spread (Falling 100 201) ≡ 0
  pub edges_high_breakpoints : breakpoints_at spread (Falling 100 201) (0 ∷ 1 ∷ []) ≡ 0 ∷ 0 ∷ []

pub record WorkedPairs : Type 0 where
  pub straddle_pays : pays two straddle (0 ∷ 99 ∷ 100 ∷ 101 ∷ 200 ∷ 201 ∷ []) ≡ 100 ∷ 1 ∷ 0 ∷ 1 ∷ 100 ∷ 0 ∷ []
  pub straddle_collateral : collateral_of two straddle ≡ 200
  pub straddle_count : breakpoints_of two straddle ≡ 2
  pub straddle_breakpoints : breakpoints_at two straddle (0 ∷ 1 ∷ 2 ∷ []) ≡ 100 ∷ 100 ∷ 0 ∷ []
  -- pairs of pairs
  pub four_pay : pays four four_options (0 ∷ 100 ∷ 200 ∷ 201 ∷ []) ≡ 180 ∷ 0 ∷ 180 ∷ 0 ∷ []
  pub four_collateral : collateral_of four four_options ≡ 360
  pub four_count : breakpoints_of four four_options ≡ 4
  pub four_breakpoints : breakpoints_at four four_options (0 ∷ 1 ∷ 2 ∷ 3 ∷ 4 ∷ []) ≡ 100 ∷ 100 ∷ 120 ∷ 80 ∷ 0 ∷ []
  pub eight_fault : fault eight eight_options ≡ []
  pub eight_pay : pays eight eight_options (0 ∷ 100 ∷ 200 ∷ []) ≡ 360 ∷ 0 ∷ 360 ∷ []
  pub eight_count : breakpoints_of eight eight_options ≡ 8
  pub eight_breakpoints : breakpoints_at eight eight_options (3 ∷ 4 ∷ 7 ∷ 8 ∷ []) ≡ 80 ∷ 100 ∷ 80 ∷ 0 ∷ []
  -- a choice, a pair of a choice and an option, and a choice of an option and a pair
  pub choice_pays : pays option_or_spread (Right (Rising 100 120)) (90 ∷ 110 ∷ 130 ∷ []) ≡ 0 ∷ 10 ∷ 20 ∷ []
  pub with_choice_pays : pays (pair_meaning option_or_spread one) (both (Right (Rising 100 120)) (Put 50)) (0 ∷ 49 ∷ 110 ∷ 200 ∷ []) ≡ 50 ∷ 1 ∷ 10 ∷ 20 ∷ []
  pub with_choice_collateral : collateral_of (pair_meaning option_or_spread one) (both (Right (Rising 100 120)) (Put 50)) ≡ 70
  pub with_choice_breakpoints : breakpoints_at (pair_meaning option_or_spread one) (both (Right (Rising 100 120)) (Put 50)) (0 ∷ 1 ∷ 2 ∷ 3 ∷ []) ≡ 100 ∷ 120 ∷ 50 ∷ 0 ∷ []
  pub choice_of_pair_pays : pays option_or_pair (Right straddle) (0 ∷ 100 ∷ 200 ∷ []) ≡ 100 ∷ 0 ∷ 100 ∷ []
  pub choice_of_option_pays : pays option_or_pair (Left (Call 110)) (110 ∷ 130 ∷ []) ≡ 0 ∷ 20 ∷ []

pub record WorkedFaults : Type 0 where
  pub reasons : map reason_number (Strike ∷ Edges ∷ Breakpoints ∷ Collateral ∷ []) ≡ 1 ∷ 2 ∷ 3 ∷ 4 ∷ []
  pub places : map place_number (Whole ∷ First ∷ Second ∷ []) ≡ 0 ∷ 1 ∷ 2 ∷ []
  -- the first part's reason comes before the second's
  pub first_part : fault two (both (Call 0) (Put 100)) ≡ 1 ∷ 1 ∷ []
  pub second_part : fault two (both (Call 100) (Put 201)) ≡ 1 ∷ 2 ∷ []
  pub spread_first : fault (pair_meaning spread one) (both (Rising 120 100) (Call 0)) ≡ 2 ∷ 1 ∷ []
  pub option_first : fault (pair_meaning one spread) (both (Call 0) (Rising 120 100)) ≡ 1 ∷ 1 ∷ []
  -- the place is the outermost pair's, and a choice has none of its own
  pub inner_second : fault four (both (both (Call 100) (Put 0)) straddle) ≡ 1 ∷ 1 ∷ []
  pub inner_first : fault four (both straddle (both (Call 0) (Put 100))) ≡ 1 ∷ 2 ∷ []
  pub choice_of_option_fault : fault option_or_pair (Left (Call 0)) ≡ 1 ∷ 0 ∷ []
  pub choice_of_pair_fault : fault option_or_pair (Right (both (Call 100) (Put 0))) ≡ 1 ∷ 2 ∷ []
  pub with_choice_fault : fault (pair_meaning option_or_pair one) (both (Right (both (Call 100) (Put 0))) (Call 100)) ≡ 1 ∷ 1 ∷ []
  -- reason 3, and what the invalid pair answers
  pub nine_fault : fault nine nine_options ≡ 3 ∷ 0 ∷ []
  pub nine_pay : pays nine nine_options (0 ∷ 100 ∷ 200 ∷ []) ≡ 0 ∷ 0 ∷ 0 ∷ []
  pub nine_collateral : collateral_of nine nine_options ≡ 0
  pub nine_count : breakpoints_of nine nine_options ≡ 0
  pub nine_breakpoints : breakpoints_at nine nine_options (0 ∷ 8 ∷ []) ≡ 0 ∷ 0 ∷ []
  pub nine_second : fault (pair_meaning one nine) (both (Call 100) nine_options) ≡ 3 ∷ 2 ∷ []
  -- a part's reason comes before the whole pair's
  pub strike_before_nine : fault nine (both eight_options (Call 0)) ≡ 1 ∷ 2 ∷ []
  -- reason 4, and reason 3 before it
  pub million : fault (pair_meaning constant constant) (both 600000 400000) ≡ []
  pub above_million : fault (pair_meaning constant constant) (both 600000 400001) ≡ 4 ∷ 0 ∷ []
  pub above_million_first : fault (pair_meaning (pair_meaning constant constant) one) (both (both 600000 400001) (Call 100)) ≡ 4 ∷ 1 ∷ []
  pub nine_before_million : fault (pair_meaning (pair_meaning eight constant) (pair_meaning one constant)) (both (both eight_options 600000) (both (Call 100) 600000)) ≡ 3 ∷ 0 ∷ []

pub record WorkedPayoffs : Type 0 where
  pub options : WorkedOptions
  pub spreads : WorkedSpreads
  pub pairs : WorkedPairs
  pub faults : WorkedFaults
