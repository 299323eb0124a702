-- The contents of a published record: its number, its value and its view.
use Rattle.std.proofs.Common.{◌≡◌, ℕ, zero, suc, ◌+◌, ◌*◌, ◌^◌, ◌<◌, ◌≤◌, List, [], ◌∷◌, length, get_or, ap, ◌∙◌}
use Rattle.std.proofs.Common.{arith}
use Rattle.snap_register.specs.History.{entry, only, number, count, record_words, start_at, memory}
use Rattle.snap_register.specs.Rule.{segments, buffers, width, Follows, IsLegal}
use Rattle.snap_register.specs.Words.{value_at, size_at, behind, IsWhole, IsBlock, AreBlocks}
use Rattle.snap_register.specs.{declared.access.Access.Access, declared.plan.Entry.Entry, declared.plan.Plan.Plan}
use Rattle.snap_register.specs.{Held.held, Held.Readable, Setup.IsSized, Setup.HasStart, Steps.view_of}
use Rattle.snap_register.proofs.{Blocks.behind_small, Blocks.size_small, Lines.find, Lines.prefix_trans}
use mathlib.Core.List.{IsPrefix}

-- the record of an update: its own block, and the view that it carries
pub record Viewed (p : Plan) (h : List Entry) (j r : ℕ) : Type 0 where
  pub part : List Entry
  pub beginning : IsPrefix part h
  pub before : number p part j + 1 ≡ (start_at p j).number + r
  pub own : IsBlock (record_words p h j r) 0 ((start_at p j).number + r) (value_at (record_words p h j r) 0)
  pub view : AreBlocks (record_words p h j r) (size_at (record_words p h j r) 0) (segments p) (memory p part)

pub viewed : (p : Plan) (h : List Entry) (j r : ℕ) → IsLegal p h → 0 < r → r ≤ count j h → Viewed p h j r
viewed p h j zero legal pos le = absurd (omega arith)
viewed p h j (suc r) legal pos le =
    let f = find j r h (omega arith) in
    let e : Entry = get_or (only j h) r (entry j []) in
    let g : Follows p f.before e = legal f.before f.after e f.is in
    let c : count j g.0 ≡ r = (rw f.its at g.2) ∙ f.place in
    let n : number p g.0 e.segment + 1 ≡ (start_at p j).number + suc r = rw f.its (omega arith) in
    record {
      part = g.0;
      beginning = prefix_trans g.0 f.before h g.1 (e ∷ f.after, f.is);
      before = omega arith;
      own = rw n at g.3.own;
      view = g.3.view;
    }

pub width_is : (p : Plan) → p.block_words ≡ 512 → width p ≡ 512 + segments p * 512
width_is p e = ap (λ (z : ℕ). (segments p + 1) * z) e ∙ omega arith

pub readable : (p : Plan) (h : List Entry) (j r : ℕ) → IsLegal p h → p.block_words ≡ 512
    → HasStart p j → r ≤ count j h → Readable p h j r
readable p h j zero legal block_words start le =
    let n : (start_at p j).number + 0 ≡ (start_at p j).number = omega arith in
    record { own = rw n start.1; fits = omega (arith, start.0, width_is p block_words) }
readable p h j (suc r) legal block_words start le =
    let u = viewed p h j (suc r) legal (omega arith) le in
    let ws : List ℕ = record_words p h j (suc r) in
    record {
      own = u.own;
      fits = omega (
        arith,
        u.view.last,
        size_small ws 0 u.own.whole,
        behind_small ws (size_at ws 0) (segments p) (λ i li. (u.view.each i li).whole),
        width_is p block_words,
      );
    }

-- all records that a seat may pin
pub all_readable : {n s block_words words : ℕ} {p : Plan} {h : List Entry} (ms : List ℕ)
    → IsSized n s block_words words p → IsLegal p h → ((j : ℕ) → j < segments p → get_or ms j 0 ≤ count j h) → (j : ℕ)
    → j < segments p → Readable p h j (get_or ms j 0)
all_readable {p = p} {h = h} ms sized legal old j lj =
    readable p h j (get_or ms j 0) legal sized.block_words_is (sized.starts j lj) (old j lj)

-- the blocks of a pinned record's view are within its words
pub view_whole : (a : Access) (j k : ℕ) → IsLegal (view_of a).plan (view_of a).seen → 0 < get_or (view_of a).records j 0
    → j < segments (view_of a).plan → k < segments (view_of a).plan
    → IsWhole (held (view_of a) j) (behind (held (view_of a) j) (size_at (held (view_of a) j) 0) k)
view_whole a j k legal updated lj lk =
    ((viewed (view_of a).plan (view_of a).seen j (get_or (view_of a).records j 0) legal updated
    (a.seated.records_are j lj)).view.each k lk).whole

-- a pinned record has few words
held_small : (a : Access) (j : ℕ) → j < segments (view_of a).plan → length (held (view_of a) j) ≤ 8704
held_small a j lj = grind (arith, width_is)

-- so the place after one of its blocks fits in a word
pub ends_small : (a : Access) (j at n : ℕ) (w : List ℕ) → j < segments (view_of a).plan
    → w ≡ held (view_of a) j → IsWhole w at → n ≡ size_at w at → at + n < 2 ^ 64
ends_small a j at n w lj same whole size = omega (arith, held_small a j lj, ap length same)

-- a writer's seat has room for all buffers
pub few_buffers : {n s block_words words : ℕ} {p : Plan} → IsSized n s block_words words p → buffers p ≤ 34
few_buffers sized = omega (arith, sized.few, sized.few_scanners, sized.segments_are, sized.scanners_are)
