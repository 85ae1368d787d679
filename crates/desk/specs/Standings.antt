-- What a standing says
use Rattle.std.specs.Prelude.{ℕ, Option, Some, None, Bool, true, false}
use Rattle.desk.specs.declared.customers.Standing.{Standing}
use Rattle.desk.specs.declared.customers.Standing.TheVariants.{NoPrice, Ineligible, Eligible}

-- the price at which the order is ranked
abbrev pub ranked_at : Standing → Option ℕ
ranked_at NoPrice = None
ranked_at (Ineligible price) = Some price
ranked_at (Eligible price) = Some price

-- whether the Retail Order meets it there
abbrev pub is_met : Standing → Bool
is_met NoPrice = false
is_met (Ineligible price) = false
is_met (Eligible price) = true
