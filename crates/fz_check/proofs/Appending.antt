-- Texts that are made piece by piece.
use Rattle.std.proofs.Common.{◌≡◌, ℕ, List, ◌++◌, ap, ◌∙◌, append_assoc}

pub two_pieces : (a b c x y : List ℕ) → b ≡ a ++ x → c ≡ b ++ y → c ≡ a ++ (x ++ y)
two_pieces a b c x y p q = q ∙ ap (λ l. l ++ y) p ∙ append_assoc a x y

pub three_pieces : (a b c d x y z : List ℕ) → b ≡ a ++ x → c ≡ b ++ y → d ≡ c ++ z
    → d ≡ a ++ (x ++ y ++ z)
three_pieces a b c d x y z p q r = two_pieces a c d (x ++ y) z (two_pieces a b c x y p q) r

pub four_pieces : (a b c d e x y z w : List ℕ) → b ≡ a ++ x → c ≡ b ++ y → d ≡ c ++ z → e ≡ d ++ w
    → e ≡ a ++ (x ++ y ++ z ++ w)
four_pieces a b c d e x y z w p q r s = two_pieces a d e (x ++ y ++ z) w (three_pieces a b c d x y z p q r) s

pub five_pieces : (a b c d e f x y z w v : List ℕ) → b ≡ a ++ x → c ≡ b ++ y → d ≡ c ++ z
    → e ≡ d ++ w → f ≡ e ++ v → f ≡ a ++ (x ++ y ++ z ++ w ++ v)
five_pieces a b c d e f x y z w v p q r s t = two_pieces a e f (x ++ y ++ z ++ w) v (four_pieces a b c d e x y z w p q r s) t
