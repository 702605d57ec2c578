-- Arithmetic on amounts, over whole numbers of any size. A result is rounded, and then it is in the
-- bound or out of range.
use Rattle.std.specs.Prelude.{ℕ, zero, suc, ◌+◌, ◌-◌, ◌*◌, ◌/◌, ◌==◌, ℤ, pos, negsuc, ◌+ℤ◌, ◌-ℤ◌, ◌*ℤ◌, neg_ℤ, Bool, not, nat_le, unsigned_abs, int_rem, Result, Ok, Err, if◌then◌else◌}
use Rattle.std.specs.Int.{is_negative}
use Rattle.quantities.specs.declared.amount_fault.AmountFault.{AmountFault}
use Rattle.quantities.specs.declared.amount_fault.AmountFault.TheVariants.{Range, DivideByZero}
use Rattle.quantities.specs.Amounts.{greatest, signed}
use Rattle.quantities.specs.Texts.{billion}

-- what a calculation gives: an amount, or why there is none
abbrev pub Calculated : Type 0
Calculated = Result ℤ AmountFault

-- an amount where the number is in the bound
abbrev pub bounded : ℤ → Calculated
bounded raw = if nat_le (unsigned_abs raw) greatest then Ok raw else Err Range

-- the whole number nearest to p / q, and of two the greater
unfoldable pub nearest : ℕ → ℕ → ℕ
nearest p q = (2 * p + q) / (2 * q)

-- one of the two is negative
abbrev pub differ_in_sign : ℤ → ℤ → Bool
differ_in_sign p q = if is_negative p then not (is_negative q) else is_negative q

-- the whole number nearest to p / q, and of two the one away from zero
abbrev pub near : ℤ → ℤ → ℤ
near p q = signed (differ_in_sign p q) (nearest (unsigned_abs p) (unsigned_abs q))

abbrev pub plus : ℤ → ℤ → Calculated
plus a b = bounded (a +ℤ b)

abbrev pub minus : ℤ → ℤ → Calculated
minus a b = bounded (a -ℤ b)

abbrev pub times : ℤ → ℤ → Calculated
times a b = bounded (near (a *ℤ b) (pos billion))

abbrev pub over : ℤ → ℤ → Calculated
over a b = if unsigned_abs b == 0 then Err DivideByZero else bounded (near (a *ℤ pos billion) b)

-- what is left of a when b is taken away as often as it goes; it has the sign of a
abbrev pub modulo : ℤ → ℤ → Calculated
modulo a b = if unsigned_abs b == 0 then Err DivideByZero else Ok (int_rem a b)

-- one more factor
abbrev pub times_more : ℤ → Calculated → Calculated
times_more a (Ok power) = times power a
times_more a (Err fault) = Err fault

-- a multiplied n times onto 1, each product rounded
unfoldable pub repeated : ℤ → ℕ → Calculated
repeated a zero = Ok (pos billion)
repeated a (suc n) = times_more a (repeated a n)

-- 1 divided by an amount
abbrev pub inverse : Calculated → Calculated
inverse (Ok power) = over (pos billion) power
inverse (Err fault) = Err fault

-- a power with a whole exponent; a negative one divides 1 by the power without the sign
abbrev pub power : ℤ → ℤ → Calculated
power a (pos n) = repeated a n
power a (negsuc n) = inverse (repeated a (suc n))

-- a number of billionths without the part below one, and with it made whole
abbrev pub whole_below : ℕ → ℕ
whole_below n = n / billion * billion

abbrev pub whole_above : ℕ → ℕ
whole_above n = (n + (billion - 1)) / billion * billion

-- the greatest whole amount that is not above
abbrev pub floor : ℤ → Calculated
floor (pos n) = bounded (pos (whole_below n))
floor (negsuc n) = bounded (neg_ℤ (pos (whole_above (suc n))))

-- the least whole amount that is not below
abbrev pub ceil : ℤ → Calculated
ceil (pos n) = bounded (pos (whole_above n))
ceil (negsuc n) = bounded (neg_ℤ (pos (whole_below (suc n))))

-- the nearest whole amount, and of two the one away from zero
abbrev pub round : ℤ → Calculated
round a = bounded (near a (pos billion) *ℤ pos billion)

-- the whole amount on the side of zero
abbrev pub trunc : ℤ → Calculated
trunc a = bounded (signed (is_negative a) (whole_below (unsigned_abs a)))
