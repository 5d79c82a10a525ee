-- What an outlook says of a test, and a range of a number (this project's profile).
use Rattle.std.specs.Prelude.{◌≡◌, ℤ, Bool, true, false, int_le, int_lt, IfSome, ⊤}
use Rattle.fz_model.specs.Relations.{◌=ℤ◌}
use Rattle.fz_bounds.specs.declared.order.Order.{Order}
use Rattle.fz_bounds.specs.declared.order.Order.TheVariants as orders
use Rattle.fz_bounds.specs.declared.outlook.Outlook.{Outlook}
use Rattle.fz_bounds.specs.declared.outlook.Outlook.TheVariants as outlooks
use Rattle.fz_bounds.specs.declared.range.Range.{Range}

-- the test has this outcome
abbrev pub Decides : Outlook → Bool → Type 0
Decides outlooks.Never holds = holds ≡ false
Decides outlooks.Always holds = holds ≡ true
Decides outlooks.Open holds = ⊤

-- the number is one of the range
abbrev pub LiesIn : Range → ℤ → Type 0
LiesIn r n = IfSome r.low (λ l. int_le l n ≡ true) × IfSome r.high (λ h. int_le n h ≡ true)

-- two numbers compare so
abbrev pub in_order : Order → ℤ → ℤ → Bool
in_order orders.Below a b = int_lt a b
in_order orders.AtMost a b = int_le a b
in_order orders.AtLeast a b = int_le b a
in_order orders.Same a b = a =ℤ b
