-- What the methods of the printer promise each other. A reader need not believe this file: what the
-- crate promises doesn't speak of it.
use Rattle.std.specs.Prelude.{◌≡◌, ℕ, Bool, List, [], ◌∷◌, ◌++◌, fold}
use Rattle.fz_tree.specs.Token.{TokenValue}
use Rattle.fz_tree.specs.Print.{blanks, tokens_text}
use Rattle.fz_tree.specs.declared.printer.Printer.{Printer}

-- a text that ends with a token, and whether a blank may come behind that
pub record Page : Type 0 where
  pub text : List ℕ
  pub apart : Bool

unfoldable pub page : Printer → Page
page p = record { text = p.text.items; apart = p.apart }

-- a page with one token more
unfoldable pub with_token : Page → TokenValue → Page
with_token p t = record { text = p.text ++ tokens_text p.apart (t ∷ []); apart = (blanks t).1 }

-- the printer has put the tokens behind what it had
abbrev pub Prints : Printer → Printer → List TokenValue → Type 0
Prints old new tokens = page new ≡ fold with_token (page old) tokens
