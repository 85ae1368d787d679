-- The limits on every number that comes from outside
use Rattle.std.specs.Prelude.{ℕ, Bool, ◌&&◌, nat_le}

abbrev pub within : (least most number : ℕ) → Bool
within least most number = nat_le least number && nat_le number most

-- The range of a price, in mills.
abbrev pub is_price : ℕ → Bool
is_price mills = within 1 10_000_000 mills

-- The range of an offset, in mills.
abbrev pub is_offset : ℕ → Bool
is_offset mills = within 1 100_000 mills

-- An order has 1 to 1,000,000 shares.
abbrev pub is_order_size : ℕ → Bool
is_order_size shares = within 1 1_000_000 shares

-- Members are numbered from 1 to 64.
abbrev pub is_member : ℕ → Bool
is_member member = within 1 64 member

-- A market centre quotes at most 1,000,000 shares; a size of 0 takes its quote away.
abbrev pub is_quote_size : ℕ → Bool
is_quote_size size = nat_le size 1_000_000
