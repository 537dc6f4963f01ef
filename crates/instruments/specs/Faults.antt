-- The faults of a contract, and the numbers under which they are told. Assumes nothing.
use Rattle.std.specs.Prelude.{ℕ}
use Rattle.instruments.specs.declared.faults.Reason.{Reason}
use Rattle.instruments.specs.declared.faults.Reason.TheVariants.{Strike, Edges, Breakpoints, Collateral}
use Rattle.instruments.specs.declared.faults.Place.{Place}
use Rattle.instruments.specs.declared.faults.Place.TheVariants.{Whole, First, Second}
use Rattle.instruments.specs.declared.faults.Invalid.{Invalid}

abbrev pub reason_number : Reason → ℕ
reason_number Strike = 1
reason_number Edges = 2
reason_number Breakpoints = 3
reason_number Collateral = 4

abbrev pub place_number : Place → ℕ
place_number Whole = 0
place_number First = 1
place_number Second = 2

-- a fault of the contract itself, and not of a part of it
abbrev pub of_whole : Reason → Invalid
of_whole r = record { reason = r; place = Whole }

-- the same reason in a part of a pair, whatever place the part itself told
abbrev pub placed : Place → Invalid → Invalid
placed p f = record { reason = f.reason; place = p }
