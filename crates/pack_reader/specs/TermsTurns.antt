-- A word of a rule's terms: what `read_word` asks and answers.
use Rattle.std.specs.Prelude.{Option, Some, None, Result, Ok, Err}
use Rattle.std.specs.Prelude.{◌≡◌, Bool, true, false, not, List, ◌++◌, ℕ, ◌+◌, ◌*◌, ◌-◌, ◌≤◌, ◌<◌, ltb, eqb, length, drop}
use Rattle.std.proofs.Common.{sym, ap, ◌∙◌, arith, ltb-true}
use Rattle.definition.specs.Test.{and_parts}
use Rattle.definition.specs.Little.{le}
use Rattle.definition.specs.Pack.{Pack, symbol_of}
use Rattle.definition.specs.Frame.{Checked, good, bad, over}
use Rattle.definition.specs.Theory.{Unread, words, variable, fits, wanted}
use Rattle.definition.proofs.Laws.Prefix.{read_all, read_done}
use Rattle.pack_tables.specs.Place.{Place}
use Rattle.pack_read.specs.Reads.{Reads, length_symbols}
use Rattle.pack_tables.specs.Name.{denied, not_denied}
use Rattle.pack_reader.specs.Terms.{wanted_by, unread_at, word_none, word-many, word-unfit, word_fits, fits-symbol}
use Rattle.pack_reader.specs.Reading.{Stacked, Wanted, Wants, Fitting, Descended}
use Rattle.pack_reader.specs.declared.terms.Point.{Point}
use Rattle.pack_reader.specs.declared.taken.Fault.{Fault}
use Rattle.pack_reader.specs.declared.taken.Fault.TheVariants.{Bad, Over}

-- a point that the reading reaches: each frame is of a word that was read
pub record Reached (bytes : List ℕ) (rs : ℕ → List Place) (body : List ℕ) (vars : ℕ) (fs : List ℕ) (p : Point) : Type 0 where
  pub stacked : Stacked bytes rs fs p.frames
  pub starts : 4 + 4 * vars ≤ p.at
  pub inside : p.at ≤ length body
  pub frames : p.frames ≤ p.read
  pub few : p.read ≤ 256

-- what reading on from there gives
abbrev pub run_from : Pack → List ℕ → ℕ → List ℕ → Point → Checked Unread
run_from P body vars fs p = read_all 256 P (words vars (drop 4 body)) (wanted_by P fs p.frames p.left) (unread_at body p.at p.read)

-- the next point
pub record Onward (bytes : List ℕ) (rs : ℕ → List Place) (body : List ℕ) (vars : ℕ) (fs fs' : List ℕ) (p q : Point) : Type 0 where
  pub reached : Reached bytes rs body vars fs' q
  pub read : q.read ≡ p.read + 1
  pub run : (P : Pack) → Reads bytes rs P → run_from P body vars fs p ≡ run_from P body vars fs' q

abbrev pub Turned : List ℕ → (ℕ → List Place) → List ℕ → ℕ → List ℕ → List ℕ → Point → Result (Option Point) Fault → Type 0
Turned bytes rs body vars fs fs' p (Ok (Some q)) = Onward bytes rs body vars fs fs' p q
Turned bytes rs body vars fs fs' p (Ok None) = (P : Pack) → Reads bytes rs P → run_from P body vars fs p ≡ good (unread_at body p.at p.read)
Turned bytes rs body vars fs fs' p (Err Bad) = (P : Pack) → Reads bytes rs P → run_from P body vars fs p ≡ bad
Turned bytes rs body vars fs fs' p (Err Over) = (P : Pack) → Reads bytes rs P → run_from P body vars fs p ≡ over

module _ (bytes : List ℕ) (rs : ℕ → List Place) (body : List ℕ) (vars : ℕ) (fs : List ℕ) (p : Point) (G : Reached bytes rs body vars fs p) where
  abbrev sorts : List ℕ
  sorts = words vars (drop 4 body)

  abbrev next : ℕ
  next = le 4 body p.at

  -- no sort is wanted
  pub turn_end : (fs' : List ℕ) → Wants bytes rs fs fs' p None → Turned bytes rs body vars fs fs' p (Ok None)
  turn_end fs' none P R = rw (none P R) (read_done P sorts (unread_at body p.at p.read))

  module _ (fs₁ : List ℕ) (s : ℕ) (q : Point) (W : Wanted bytes rs fs fs₁ p s q) where
    abbrev others : Pack → List ℕ
    others P = wanted_by P fs₁ q.frames q.left

    -- there is no word
    pub turn-none : length body - q.at < 4 → Turned bytes rs body vars fs fs₁ p (Err Bad)
    turn-none h P R = rw (W.wants P R) (word_none P sorts body p.at p.read s (others P) (omega (arith, W.at)))

    module _ (room : q.at + 4 ≤ length body) where
      long : p.at + 4 ≤ length body
      long = omega (arith, W.at)

      -- it is the 257th
      pub turn_many : 256 ≤ q.read → Turned bytes rs body vars fs fs₁ p (Err Over)
      turn_many h P R = rw (W.wants P R) (word-many P sorts body p.at p.read s (others P) long (omega (arith, W.read)))

      module _ (few : q.read < 256) (w : ℕ) (is : w ≡ le 4 body q.at) (t : Bool) (F : Fitting bytes rs body vars s w t) where
        below : p.read < 256
        below = omega (arith, W.read)

        same : w ≡ next
        same = is ∙ ap (le 4 body) W.at

        fit : (P : Pack) → Reads bytes rs P → t ≡ fits P sorts s next
        fit P R = F P R ∙ ap (fits P sorts s) same

        -- it may not stand there
        pub turn-unfit : not t ≡ true → Turned bytes rs body vars fs fs₁ p (Err Bad)
        turn-unfit e P R = rw (W.wants P R) (word-unfit P sorts body p.at p.read s (others P) long below (denied t (fits P sorts s next) (fit P R) e))

        -- it may: then it is a variable, or a symbol that was given
        pub symbol-given : not t ≡ false → (P : Pack) → Reads bytes rs P → w < variable → w < length (rs 1)
        symbol-given e P R h =
            let ok : fits P sorts s w ≡ true = not_denied t (fits P sorts s w) (F P R) e in
            let l : w < length P.symbols = ltb-true w (length P.symbols) (and_parts (ltb w (length P.symbols)) (eqb (symbol_of P w).output s) (sym (fits-symbol P sorts s w h) ∙ ok)).0 in
            omega (arith, length_symbols bytes rs P R)

        -- and the reading goes on behind it
        pub turn_on : not t ≡ false → (fs₂ : List ℕ) (m n : Point) → m.at ≡ q.at + 4 → m.read ≡ q.read + 1 → m.frames ≡ q.frames → m.left ≡ q.left
            → Descended bytes rs fs₁ fs₂ m w n → Turned bytes rs body vars fs fs₂ p (Ok (Some n))
        turn_on e fs₂ m n at read frames left D = record {
          reached = record {
            stacked = D.stacked;
            starts = omega (arith, D.at, W.at, G.starts);
            inside = omega (arith, D.at);
            frames = omega (arith, D.frames, D.read, W.frames, W.read, G.frames);
            few = omega (arith, D.read);
          };
          read = omega (arith, D.read, W.read);
          run = λ P R.
              let a : n.at ≡ p.at + 4 = omega (arith, D.at, W.at) in
              let r : n.read ≡ p.read + 1 = omega (arith, D.read, W.read) in
              let before = word_fits P sorts body p.at p.read s (others P) long below (not_denied t (fits P sorts s next) (fit P R) e) in
              let more : wanted P next ++ others P ≡ wanted_by P fs₂ n.frames n.left = ap (λ (v : ℕ). wanted P v ++ others P) (sym same) ∙ (rw (frames, left) at (D.wants P R)) in
              rw (W.wants P R, a, r) (before ∙ ap (λ (ss : List ℕ). read_all 256 P sorts ss (unread_at body (p.at + 4) (p.read + 1))) more);
        }
