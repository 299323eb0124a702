-- Words and sizes as another program packs them: Python's struct.unpack("<Q", bytes), with the
-- bytes padded with zeros to eight.
use Rattle.std.proofs.Common.{◌≡◌, ℕ, ◌+◌, ◌∷◌, [], refl}
use Rattle.std.specs.Int.{w64, to_le_bytes}
use Rattle.snap_register.specs.Words.{words_for}

-- b"snapshot"
letters : to_le_bytes w64 8390039475830484595 ≡ 115 ∷ 110 ∷ 97 ∷ 112 ∷ 115 ∷ 104 ∷ 111 ∷ 116 ∷ []
letters = refl

rising : to_le_bytes w64 9225348980303659521 ≡ 1 ∷ 2 ∷ 3 ∷ 4 ∷ 5 ∷ 6 ∷ 7 ∷ 128 ∷ []
rising = refl

greatest : to_le_bytes w64 18446744073709551615 ≡ 255 ∷ 255 ∷ 255 ∷ 255 ∷ 255 ∷ 255 ∷ 255 ∷ 255 ∷ []
greatest = refl

-- no bytes, padded
no_tail : to_le_bytes w64 0 ≡ 0 ∷ 0 ∷ 0 ∷ 0 ∷ 0 ∷ 0 ∷ 0 ∷ 0 ∷ []
no_tail = refl

one_byte : to_le_bytes w64 1 ≡ 1 ∷ 0 ∷ 0 ∷ 0 ∷ 0 ∷ 0 ∷ 0 ∷ 0 ∷ []
one_byte = refl

-- b"tail!"
five_bytes : to_le_bytes w64 143552766324 ≡ 116 ∷ 97 ∷ 105 ∷ 108 ∷ 33 ∷ 0 ∷ 0 ∷ 0 ∷ []
five_bytes = refl

-- b"snapsho"
seven_bytes : to_le_bytes w64 31358567430844019 ≡ 115 ∷ 110 ∷ 97 ∷ 112 ∷ 115 ∷ 104 ∷ 111 ∷ 0 ∷ []
seven_bytes = refl

greatest_tail : to_le_bytes w64 72057594037927935 ≡ 255 ∷ 255 ∷ 255 ∷ 255 ∷ 255 ∷ 255 ∷ 255 ∷ 0 ∷ []
greatest_tail = refl

-- the sizes of blocks of 0, 1, 8, 9, 4,079 and 4,080 bytes
abbrev size : ℕ → ℕ
size n = 2 + words_for n

sizes : (size 0 ∷ size 1 ∷ size 8 ∷ size 9 ∷ size 4079 ∷ size 4080 ∷ []) ≡ 2 ∷ 3 ∷ 3 ∷ 4 ∷ 512 ∷ 512 ∷ []
sizes = refl
