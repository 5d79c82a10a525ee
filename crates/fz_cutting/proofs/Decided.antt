-- Whether a text is one of items whose names are declared, from the items that it is one of.
use Rattle.std.proofs.Common.{◌≡◌, ◌↔◌, ℕ, Bool, true, List, [], ◌∷◌, ◌++◌, ap, sym, ◌∙◌, subst, subst₂, IsTrue}
use Rattle.fz_syntax.specs.Limits.{Limits}
use Rattle.fz_syntax.specs.Text.{IsTextOfItemsWithin}
use Rattle.fz_syntax.specs.Tree.{Printed}
use Rattle.fz_syntax.proofs.More.{one_list_of_items}
use Rattle.fz_store.specs.of_meaning.Meaning.{Model}
use Rattle.fz_cutting.specs.Short.{AreItems, AreItemsToName, IsHalf, are_declared}
use Rattle.fz_cutting.proofs.Lists.{none_is_last, same_but_last}

module _ (limits : Limits) (m : Model) (text : List ℕ) (items : List Printed) (is : IsTextOfItemsWithin limits text items) where
  pub items_decide : (b : Bool) → b ≡ are_declared m items → IsTrue b ↔ AreItems limits m text
  items_decide b e = (
    (λ t. record { items = items; text_of = is; declared = sym e ∙ t }),
    (λ a. e ∙ ap (are_declared m) (one_list_of_items limits limits text items a.items is a.text_of) ∙ a.declared),
  )

  module _ (others : List Printed) (last : Printed) (split : items ≡ others ++ last ∷ []) where
    pub to_name : are_declared m others ≡ true → IsHalf m last.name
        → AreItemsToName limits m text
    to_name declared half = record {
      items = others;
      last = last;
      text_of = subst (IsTextOfItemsWithin limits text) split is;
      declared = declared;
      is_half = half;
    }

    pub of_name : AreItemsToName limits m text
        → (are_declared m others ≡ true) × IsHalf m last.name
    of_name a =
        let one = one_list_of_items limits limits text items (a.items ++ a.last ∷ []) is a.text_of in
        let same = same_but_last others a.items last a.last (sym split ∙ one) in
        (ap (are_declared m) same.0 ∙ a.declared, subst (λ (p : Printed). IsHalf m p.name) (sym same.1) a.is_half)

  pub no_name : items ≡ [] → AreItemsToName limits m text → ⊥
  no_name none a =
      none_is_last a.items a.last (sym none ∙ one_list_of_items limits limits text items (a.items ++ a.last ∷ []) is a.text_of)
