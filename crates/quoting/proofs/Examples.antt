-- Texts in quotes and numbers, tried on cases that are worked by hand.
use Rattle.std.proofs.Common.{◌≡◌, [], ◌∷◌, pos, negsuc, codes, refl}
use Rattle.std.specs.Fmt.{digits, decimal, signed_decimal}
use Rattle.quoting.specs.Quoted.{quoted}

-- `a"\` and the bytes 0x01 and 0xff are printed `"a\"\\\x01\xff"`
quoted_bytes : quoted (97 ∷ 34 ∷ 92 ∷ 1 ∷ 255 ∷ [])
    ≡ 34 ∷ 97 ∷ 92 ∷ 34 ∷ 92 ∷ 92 ∷ 92 ∷ 120 ∷ 48 ∷ 49 ∷ 92 ∷ 120 ∷ 102 ∷ 102 ∷ 34 ∷ []
quoted_bytes = refl

-- no byte at all is printed `""`
quoted_nothing : quoted [] ≡ 34 ∷ 34 ∷ []
quoted_nothing = refl

-- a blank and `~` are printed as they are, 0x7f isn't
quoted_border : quoted (32 ∷ 126 ∷ 127 ∷ []) ≡ 34 ∷ 32 ∷ 126 ∷ 92 ∷ 120 ∷ 55 ∷ 102 ∷ 34 ∷ []
quoted_border = refl

-- 0, 10 and -10
zero_is : signed_decimal (pos 0) ≡ codes "0"
unfolding digits
zero_is = refl

ten_is : signed_decimal (pos 10) ≡ codes "10"
unfolding digits
ten_is = refl

minus_ten_is : signed_decimal (negsuc 9) ≡ codes "-10"
unfolding digits
minus_ten_is = refl

-- 2^32 is printed whole
past_32_bits : decimal 4294967296 ≡ codes "4294967296"
unfolding digits
past_32_bits = refl
