-- Texts, tokens and numbers that were cut and read by hand.
use Rattle.std.proofs.Common.{◌≡◌, [], ◌∷◌, codes, refl, Some, None}
use Rattle.text_lines.specs.Lines.{text_of}
use Rattle.text_lines.specs.NumberTokens.{number_of}
use Rattle.text_lines.specs.Spelled.{line_text}

-- a blank line and a remark are counted, a tab parts tokens, one carriage return is dropped, and the last line lacks its feed
grid_text : text_of (codes "x 0  1\r\n \t\n  # o 1 0\n\to\t1 0 ") ≡ record {
  lines = record { number = 1; tokens = codes "x" ∷ codes "0" ∷ codes "1" ∷ [] } ∷ record { number = 4; tokens = codes "o" ∷ codes "1" ∷ codes "0" ∷ [] } ∷ [];
  ending = 5;
}
grid_text = refl

-- a second carriage return stays, and makes its line one that says something
second_return : text_of (codes "\r\r\n") ≡ record { lines = record { number = 1; tokens = codes "\r" ∷ [] } ∷ []; ending = 2 }
second_return = refl

-- no bytes are no line, and a line feed alone is one
nothing : text_of [] ≡ record { lines = []; ending = 1 }
nothing = refl

one_feed : text_of (codes "\n") ≡ record { lines = []; ending = 2 }
one_feed = refl

zero : number_of (codes "0") ≡ Some 0
zero = refl

nine_digits : number_of (codes "123456789") ≡ Some 123456789
nine_digits = refl

ten_digits : number_of (codes "1000000000") ≡ Some 4294967295
ten_digits = refl

leading_zero : number_of (codes "01") ≡ None
leading_zero = refl

minus_zero : number_of (codes "-0") ≡ None
minus_zero = refl

no_digits : number_of [] ≡ None
no_digits = refl

line : line_text (codes "x" ∷ codes "0" ∷ codes "1" ∷ []) ≡ codes "x 0 1\n"
line = refl
