-- The places of the registers' words.
use Rattle.std.proofs.Common.{◌≡◌, ◌≢◌, ℕ, ◌+◌, ◌*◌, ◌<◌, sym, mul-le-mul_right, arith}
use Rattle.snap_scan.proofs.Places.{same_collect, same_segment}
use Rattle.snap_register.specs.declared.plan.Plan.{Plan}
use Rattle.snap_register.specs.Rule.{segments, buffers, width, given, cell, size}

pub below_product : (x y w q : ℕ) → x < y → q < w → x * w + q < y * w
below_product x y w q h l = omega (arith, mul-le-mul_right w h)

pub parts_same : (a b w q s : ℕ) → q < w → s < w → a * w + q ≡ b * w + s → (a ≡ b) × (q ≡ s)
parts_same a b w q s lq ls e = (same_collect w a q b s lq ls e, same_segment w a q b s lq ls e)

-- word c isn't one of register i
pub record Apart (p : Plan) (i c : ℕ) : Type 0 where
  pub word : i ≢ c
  pub givens : (b : ℕ) → b < buffers p → given p i b ≢ c
  pub cells : (b q : ℕ) → b < buffers p → q < width p → cell p i b q ≢ c

module _ (p : Plan) where
  pub cell_same : (i r q j s t : ℕ) → r < buffers p → s < buffers p → q < width p → t < width p
      → cell p i r q ≡ cell p j s t → (i ≡ j) × (r ≡ s) × (q ≡ t)
  cell_same i r q j s t lr ls lq lt e =
      let outer = parts_same (i * buffers p + r) (j * buffers p + s) (width p) q t lq lt (omega arith) in
      let each = parts_same i j (buffers p) r s lr ls outer.0 in (each.0, each.1, outer.1)

  pub given_same : (i r j s : ℕ) → r < buffers p → s < buffers p → given p i r ≡ given p j s → (i ≡ j) × (r ≡ s)
  given_same i r j s lr ls e = parts_same i j (buffers p) r s lr ls (omega arith)

  pub given_behind : (i b j : ℕ) → j < segments p → j ≢ given p i b
  given_behind i b j lj e = omega arith

  pub cell_behind : (i r q j : ℕ) → j < segments p → j ≢ cell p i r q
  cell_behind i r q j lj e = omega arith

  pub given_cell : (j b i r q : ℕ) → j < segments p → b < buffers p → given p j b ≢ cell p i r q
  given_cell j b i r q lj lb e = omega (arith, below_product j (segments p) (buffers p) b lj lb)

  pub cell_inside : (i r q : ℕ) → i < segments p → r < buffers p → q < width p → cell p i r q < size p
  cell_inside i r q li lr lq =
      let buffer = below_product i (segments p) (buffers p) r li lr in
      omega (
        arith,
        below_product (i * buffers p + r) (segments p * buffers p) (width p) q buffer lq,
      )

  pub given_inside : (i b : ℕ) → i < segments p → b < buffers p → given p i b < size p
  given_inside i b li lb = omega (arith, below_product i (segments p) (buffers p) b li lb)

  pub word_inside : (i : ℕ) → i < segments p → i < size p
  word_inside i li = omega arith

  -- the current word of another register j
  pub word_apart : (i j : ℕ) → j < segments p → i ≢ j → Apart p i j
  word_apart i j lj ne = record {
    word = ne;
    givens = λ b lb e. given_behind i b j lj (sym e);
    cells = λ b q lb lq e. cell_behind i b q j lj (sym e);
  }

  pub given_apart : (i j r : ℕ) → i < segments p → j < segments p → r < buffers p → i ≢ j → Apart p i (given p j r)
  given_apart i j r li lj lr ne = record {
    word = given_behind j r i li;
    givens = λ b lb e. ne (given_same i b j r lb lr e).0;
    cells = λ b q lb lq e. given_cell j r i b q lj lr (sym e);
  }

  pub cell_apart : (i j r s : ℕ) → i < segments p → r < buffers p → s < width p → i ≢ j → Apart p i (cell p j r s)
  cell_apart i j r s li lr ls ne = record {
    word = cell_behind j r s i li;
    givens = λ b lb e. given_cell i b j r s li lb e;
    cells = λ b q lb lq e. ne (cell_same i b q j r s lb lr lq ls e).0;
  }
