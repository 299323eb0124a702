-- The words of a crash's line, as they are read.
use Rattle.std.proofs.Common.{◌≡◌, ℕ, ◌≤◌, Option, Some, None, List, [], ◌∷◌, ◌++◌, length, Bor, refl, sym, ap, ◌∙◌}
use Rattle.std.proofs.Common.{append_assoc, append-nil, arith, ◌==◌, MatchOption}
use Rattle.std.{specs.List.AllZip, proofs.lemmas.List.Splits.length-slice_split}
use Rattle.snap_disk.specs.declared.fill.Fill.{Fill}
use Rattle.snap_script.{specs.Words.words_of, specs.Words.IsFill, proofs.Zip.AllZip-push}

-- the words of what is left of a line
abbrev pub words_after : Option (Bor (List ℕ)) → List (List ℕ)
words_after None = []
words_after (Some text) = words_of text.now

-- some words of the line are read as these fills, and these are left
pub record IsRead (line : List ℕ) (fills : List Fill) (rest : Option (Bor (List ℕ))) : Type 0 where
  pub words : List (List ℕ)
  pub whole : words_of line ≡ words ++ words_after rest
  pub are : AllZip IsFill words fills

-- each word is a fill
fill_at : (words rest : List (List ℕ)) (word : List ℕ) (fills : List Fill)
    → AllZip IsFill (words ++ word ∷ rest) fills → (f : Fill) × IsFill word f
fill_at [] rest word (f ∷ fills) h = (f, h.0)
fill_at (w ∷ words) rest word (f ∷ fills) h = fill_at words rest word fills h.1
fill_at words rest word fills h = absurd h

-- a line has a word
pub some_word : (line : List ℕ) → 1 ≤ length (words_of line)
some_word line = omega (arith, length-slice_split (λ b. b == 32) line)

cut-words : (text word : List ℕ) (o : Option (Bor (List ℕ)))
    → MatchOption o (words_of text ≡ word ∷ []) (λ rest. words_of text ≡ word ∷ words_of rest.now)
    → words_of text ≡ word ∷ words_after o
cut-words text word None h = h
cut-words text word (Some rest) h = h

nothing_after : (o : Option (Bor (List ℕ))) → ((x : Bor (List ℕ)) → o ≡ Some x → ⊥) → words_after o ≡ []
nothing_after None h = refl
nothing_after (Some x) h = absurd (h x refl)

-- one word on
module _ {line : List ℕ} {fills : List Fill} {now : Option (Bor (List ℕ))} {text : Bor (List ℕ)}
    (after : Option (Bor (List ℕ))) (word : List ℕ) (read : IsRead line fills now) (is : now ≡ Some text)
    (cut : MatchOption after (words_of text.now ≡ word ∷ []) (λ rest. words_of text.now ≡ word
    ∷ words_of rest.now)) where
  whole_on : words_of line ≡ read.words ++ word ∷ words_after after
  whole_on = read.whole ∙ ap (λ o. read.words ++ words_after o) is
      ∙ ap (λ ws. read.words ++ ws) (cut-words text.now word after cut)

  pub read_on : (fill : Fill) → IsFill word fill → IsRead line (fills ++ fill ∷ []) after
  read_on fill f = record {
    words = read.words ++ word ∷ [];
    whole = whole_on ∙ sym (append_assoc read.words (word ∷ []) (words_after after));
    are = AllZip-push IsFill read.words fills word fill read.are f;
  }

  pub no_fills : ((f : Fill) → IsFill word f → ⊥) → (all : List Fill) → AllZip IsFill (words_of line) all → ⊥
  no_fills none all are =
      let some = fill_at read.words (words_after after) word all (rw whole_on at are) in
      none some.0 some.1

-- nothing is left
pub read_whole : {line : List ℕ} {fills : List Fill} {now : Option (Bor (List ℕ))} → IsRead line fills now
    → ((x : Bor (List ℕ)) → now ≡ Some x → ⊥) → AllZip IsFill (words_of line) fills
read_whole {line} {fills} {now} read none = rw (read.whole, nothing_after now none, append-nil read.words) read.are
