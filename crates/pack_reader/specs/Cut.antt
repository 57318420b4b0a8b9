-- What taking up a cut answers, and how it marks its predicate.
use Rattle.std.specs.Prelude.{Ok, Err}
use Rattle.std.specs.Prelude.{◌≡◌, refl, Bool, true, false, not, List, [], ◌∷◌, ℕ, ◌+◌, ◌*◌, ◌-◌, ◌/◌, ◌≤◌, ◌<◌, ltb, length, set, drop}
use Rattle.std.proofs.Math.Path.{sym}
use Rattle.std.proofs.Common.{ap, subst, ◌∙◌, arith, length-set, length-append, get_or-set_same, get_or-set_other}
use Rattle.std.proofs.Math.Decide.{ℕ_discrete}
use Rattle.std.proofs.Math.ListN.{get_or-append}
use Rattle.std.proofs.lemmas.List.{get_or_at}
use Rattle.definition.specs.Test.{all}
use Rattle.definition.specs.Little.{le}
use Rattle.definition.specs.Pack.{prop, Cut, Pack, symbol_of, with_cut}
use Rattle.definition.specs.Frame.{good}
use Rattle.definition.specs.Theory.{words}
use Rattle.definition.specs.Certificate.{take_cut}
use Rattle.definition.proofs.Laws.DecideCertificate.{cut_short, cut-symbol, cut_predicate, cut-length, cut_position, cut_again, cut-taken}
use Rattle.pack_tables.specs.Place.{Place, no_place, body_at}
use Rattle.pack_tables.specs.Catalog.{records_of, Fits, Cataloged, EnteringIn, More, records_few, records-set, cataloged_set}
use Rattle.pack_tables.specs.declared.catalog.Catalog.{Catalog}
use Rattle.pack_read.specs.Body.{cut_in}
use Rattle.pack_read.specs.Reads.{Reads, OneMore, CutForm, length_symbols, read_cut}
use Rattle.pack_read.specs.Says.{OfPack}
use Rattle.pack_tables.specs.Name.{denied, not_denied}
use Rattle.pack_reader.specs.Taking.{Reading, Whole, behind, body-at, may_enter, read_on}
use Rattle.pack_reader.specs.Marks.{marks_at, mark_of, predicate_at, Marks, Beyond, Advances, marked-cut, unmarked_cut}
use Rattle.pack_reader.specs.declared.taken.Fault.TheVariants.{Bad}

-- the number of records of a kind fits a word
pub count_small : (bytes work : List ℕ) (c : Catalog) (k n : ℕ) → Cataloged bytes work c → n ≡ length (records_of work c k) → k < 9 → n < 1073741824
count_small bytes work c k n C e l = omega (arith, records_few bytes work c k C l, C.fits.small)

-- ---- a cut more, and then the mark of its predicate, which had none
module _ (bytes work next : List ℕ) (c : Catalog) (p : Place) (M : Marks bytes work c) (G : More bytes work next c 7 p) (h : ℕ) (below : h < c.cap) (free : mark_of work c h ≡ 0) (v : ℕ) (mark : v ≡ length (records_of next c 7)) where
  abbrev cs : List Place
  cs = records_of work c 7

  abbrev done : List ℕ
  done = set next (marks_at c + h) v

  -- the store of the mark leaves the records
  records-kept : (k : ℕ) → k < 9 → records_of done c k ≡ records_of next c k
  records-kept k l = records-set bytes next c G.cataloged (marks_at c + h) v (omega arith) k l

  -- there is the new cut, and nothing else is new
  pub more-done : OneMore (records_of work c) (records_of done c) 7 p
  more-done = record { more = records-kept 7 (omega arith) ∙ G.more; same = λ j l d. records-kept j l ∙ G.others j l d }

  -- and the reader where it was
  pub reading_done : (end : ℕ) → Reading bytes next c end → Reading bytes done c end
  reading_done end R = record {
    cataloged = cataloged_set bytes next c G.cataloged (marks_at c + h) v (omega arith);
    few = λ k l. subst (λ (ps : List Place). 7 * length ps ≤ end) (sym (records-kept k l)) (R.few k l);
    cap = R.cap;
    short = R.short;
  }

  many : length (records_of done c 7) ≡ length cs + 1
  many = ap length more-done.more ∙ length-append cs (p ∷ [])

  -- the mark is the number of the new cut and one
  value : v ≡ length cs + 1
  value = mark ∙ ap length G.more ∙ length-append cs (p ∷ [])

  mark-new : mark_of done c h ≡ length cs + 1
  mark-new = get_or-set_same next (marks_at c + h) v 0 (omega (arith, M.room, G.outside.long)) ∙ value

  -- the other marks are as they were
  mark-old : (g : ℕ) → (g ≡ h → ⊥) → mark_of done c g ≡ mark_of work c g
  mark-old g d = get_or-set_other next (marks_at c + h) (marks_at c + g) v 0 (λ e. d (omega (arith, e))) ∙ G.outside.behind (marks_at c + g) (omega arith)

  -- earlier cuts are of the predicates that they were of
  predicate_old : (j : ℕ) → j < length cs → predicate_at bytes (records_of done c 7) j ≡ predicate_at bytes cs j
  predicate_old j l = ap (λ (ps : List Place). predicate_at bytes ps j) more-done.more ∙ ap (λ (q : Place). le 4 (body_at bytes q) 0) (get_or-append cs (p ∷ []) no_place j l)

  predicate_new : predicate_at bytes (records_of done c 7) (length cs) ≡ le 4 (body_at bytes p) 0
  predicate_new = ap (λ (ps : List Place). predicate_at bytes ps (length cs)) more-done.more ∙ ap (λ (q : Place). le 4 (body_at bytes q) 0) (get_or_at cs p [] no_place (length cs) refl)

  -- no earlier cut is of a predicate without a mark
  predicate_other : (j : ℕ) → j < length cs → predicate_at bytes cs j ≡ h → ⊥
  predicate_other j l e =
      let q : mark_of work c h ≡ j + 1 = ap (mark_of work c) (sym e) ∙ (M.marked j l).1 in
      omega arith

  -- the marks are right if the cut is of the symbol that was marked
  module _ (cut_of : le 4 (body_at bytes p) 0 ≡ h) where
    found_at : (g : ℕ) → g < c.cap → 0 < mark_of done c g → Dec (g ≡ h) → (mark_of done c g ≤ length (records_of done c 7)) × (predicate_at bytes (records_of done c 7) (mark_of done c g - 1) ≡ g)
    found_at g l m (yes e) =
        let q : mark_of done c g ≡ length cs + 1 = ap (mark_of done c) e ∙ mark-new in
        let i : mark_of done c g - 1 ≡ length cs = omega arith in
        (omega (arith, many), ap (predicate_at bytes (records_of done c 7)) i ∙ predicate_new ∙ cut_of ∙ sym e)
    found_at g l m (no d) =
        let q : mark_of done c g ≡ mark_of work c g = mark-old g d in
        let s : 0 < mark_of work c g = omega arith in
        let f = M.found g l s in
        let k : mark_of work c g - 1 < length cs = omega (arith, f.0) in
        (omega (arith, many, f.0), ap (λ (n : ℕ). predicate_at bytes (records_of done c 7) (n - 1)) q ∙ predicate_old (mark_of work c g - 1) k ∙ f.1)

    marked-at : (j : ℕ) → j < length (records_of done c 7) → Dec (j ≡ length cs) → (predicate_at bytes (records_of done c 7) j < c.cap) × (mark_of done c (predicate_at bytes (records_of done c 7) j) ≡ j + 1)
    marked-at j l (yes e) =
        let q : predicate_at bytes (records_of done c 7) j ≡ h = ap (predicate_at bytes (records_of done c 7)) e ∙ predicate_new ∙ cut_of in
        (omega arith, ap (mark_of done c) q ∙ mark-new ∙ ap (λ (n : ℕ). n + 1) (sym e))
    marked-at j l (no d) =
        let k : j < length cs = omega (arith, many) in
        let q : predicate_at bytes (records_of done c 7) j ≡ predicate_at bytes cs j = predicate_old j k in
        let f = M.marked j k in
        (omega (arith, f.0), ap (mark_of done c) q ∙ mark-old (predicate_at bytes cs j) (predicate_other j k) ∙ f.1)

    pub marks-done : Marks bytes done c
    marks-done = record {
      room = omega (arith, M.room, G.outside.long, length-set next (marks_at c + h) v);
      found = λ g l m. found_at g l m (ℕ_discrete g h);
      marked = λ j l. marked-at j l (ℕ_discrete j (length cs));
    }

  -- nothing but the regions and the marks is written
  pub beyond_done : Beyond work done c
  beyond_done = record {
    long = length-set next (marks_at c + h) v ∙ G.outside.long;
    ahead = λ i l. get_or-set_other next (marks_at c + h) i v 0 (λ e. omega (arith, e)) ∙ G.outside.ahead i l;
    behind = λ i l. get_or-set_other next (marks_at c + h) i v 0 (λ e. omega (arith, e)) ∙ G.outside.behind i (omega arith);
  }

-- ---- one law a test
module _ (bytes work body : List ℕ) (c : Catalog) (at : ℕ) (R : Reading bytes work c at) (W : Whole bytes body at) (M : Marks bytes work c) where
  abbrev place : Place
  place = record { at = at; from = at + 6 }

  abbrev rs : ℕ → List Place
  rs = records_of work c

  abbrev Refused : Type 0
  Refused = Advances bytes work work c (behind at body) (λ P. take_cut P body) (Err Bad)

  body_is : body_at bytes place ≡ body
  body_is = body-at bytes body at (at + 6) W

  -- the predicate is cut
  pub short_cut : length body < 4 → Refused
  short_cut l P r = cut_short P body l

  module _ (long : 4 ≤ length body) (h : ℕ) (h-is : h ≡ le 4 body 0) where
    -- no symbol
    pub symbolless_cut : length (rs 1) ≤ h → Refused
    symbolless_cut l P r = cut-symbol P body long (omega (arith, length_symbols bytes rs P r))

    module _ (symbol : h < length (rs 1)) (output : ℕ) (output-is : OfPack bytes work c (λ P. (symbol_of P h).output) output) where
      there : (P : Pack) → Reads bytes rs P → le 4 body 0 < length P.symbols
      there P r = omega (arith, length_symbols bytes rs P r)

      output_at : (P : Pack) → Reads bytes rs P → (symbol_of P (le 4 body 0)).output ≡ output
      output_at P r = ap (λ (i : ℕ). (symbol_of P i).output) (sym h-is) ∙ sym (output-is P r)

      -- a constructor
      pub constructor_cut : (output ≡ prop → ⊥) → Refused
      constructor_cut d P r = cut_predicate P body long (there P r) (λ e. d (sym (output_at P r) ∙ e))

      module _ (predicate : output ≡ prop) where
        judges : (P : Pack) → Reads bytes rs P → (symbol_of P (le 4 body 0)).output ≡ prop
        judges P r = output_at P r ∙ predicate

        -- the last position is cut
        pub broken_cut : (length body ≡ 4 + 4 * ((length body - 4) / 4) → ⊥) → Refused
        broken_cut d P r = cut-length P body long (there P r) (judges P r) d

        module _ (whole : length body ≡ 4 + 4 * ((length body - 4) / 4)) (arity : ℕ) (arity-is : OfPack bytes work c (λ P. length (symbol_of P h).inputs) arity) (t : Bool) (answer : t ≡ all (λ w. ltb w arity) (words ((length body - 4) / 4) (drop 4 body))) where
          positions_are : (P : Pack) → Reads bytes rs P → t ≡ all (λ o. ltb o (length (symbol_of P (le 4 body 0)).inputs)) (words ((length body - 4) / 4) (drop 4 body))
          positions_are P r =
              answer ∙ ap (λ (a : ℕ). all (λ w. ltb w a) (words ((length body - 4) / 4) (drop 4 body))) (arity-is P r ∙ ap (λ (i : ℕ). length (symbol_of P i).inputs) h-is)

          -- a position that is not below the arity: the answer, which code negates
          pub outside_cut : not t ≡ true → Refused
          outside_cut d P r = cut_position P body long (there P r) (judges P r) whole (denied t _ (positions_are P r) d)

          module _ (inside : not t ≡ false) (mark : ℕ) (mark-is : mark ≡ mark_of work c h) where
            below : h < c.cap
            below = omega (arith, records_few bytes work c 1 R.cataloged (omega arith))

            positions : (P : Pack) → Reads bytes rs P → all (λ o. ltb o (length (symbol_of P (le 4 body 0)).inputs)) (words ((length body - 4) / 4) (drop 4 body)) ≡ true
            positions P r = not_denied t _ (positions_are P r) inside

            -- the predicate has a mark, so it has a cut
            pub second-cut : (mark ≡ 0 → ⊥) → Refused
            second-cut d P r =
                let m : 0 < mark_of work c h = omega (arith, d) in
                cut_again P body long (there P r) (judges P r) whole (positions P r) (rw h-is at (marked-cut bytes work c M P r h below m))

            module _ (free : mark ≡ 0) where
              unmarked : mark_of work c h ≡ 0
              unmarked = sym mark-is ∙ free

              -- what `push` asks for
              pub push-cut : EnteringIn bytes work c 7 place
              push-cut = let e : at + 6 + 0 ≡ at + 6 = omega arith in subst (λ (f : ℕ). EnteringIn bytes work c 7 (record { at = at; from = f })) e (may_enter bytes work body c at 7 0 R W (omega (arith, long)) (omega arith) (omega arith) (λ h. absurd (omega arith)))

              form : CutForm bytes place
              form = subst (λ (b : List ℕ). 4 ≤ length b) (sym body_is) long

              cut_is : record { predicate = le 4 body 0; outputs = words ((length body - 4) / 4) (drop 4 body) } ≡ cut_in (body_at bytes place)
              unfolding cut_in
              cut_is = sym (ap cut_in body_is)

              taken : (P : Pack) → Reads bytes rs P → take_cut P body ≡ good (with_cut P (cut_in (body_at bytes place)))
              taken P r =
                  cut-taken P body long (there P r) (judges P r) whole (positions P r) (rw h-is at (unmarked_cut bytes work c M P r h below unmarked))
                  ∙ ap (λ (x : Cut). good (with_cut P x)) cut_is

              cut_of : le 4 (body_at bytes place) 0 ≡ h
              cut_of = ap (λ (b : List ℕ). le 4 b 0) body_is ∙ sym h-is

              -- the cut is put behind the others, and its predicate has its mark
              marked-new : (next : List ℕ) (v : ℕ) → More bytes work next c 7 place → v ≡ length (records_of next c 7) → Advances bytes work (set next (marks_at c + h) v) c (behind at body) (λ P. take_cut P body) (Ok tt)
              marked-new next v G e = record {
                reading = reading_done bytes work next c place M G h below unmarked v e (behind at body) (read_on bytes work next c at (behind at body) 7 place R (omega (arith, long)) G);
                marks = marks-done bytes work next c place M G h below unmarked v e cut_of;
                beyond = beyond_done bytes work next c place M G h below unmarked v e;
                says = λ P r. (
                  with_cut P (cut_in (body_at bytes place)),
                  taken P r,
                  read_cut bytes rs (records_of (set next (marks_at c + h) v) c) P r place (more-done bytes work next c place M G h below unmarked v e) form,
                );
              }

              module _ (next : List ℕ) (G : More bytes work next c 7 place) where
                -- what `mark_place` asks for behind the new cut
                pub place_there : Fits next c × (marks_at c + c.cap ≤ length next) × (h < c.cap)
                place_there = (G.cataloged.fits, omega (arith, M.room, G.outside.long), below)

                -- the mark, at the place that `mark_place` gives
                pub new-cut : (m : ℕ) → m ≡ marks_at c + h → (v : ℕ) → v ≡ length (records_of next c 7) → Advances bytes work (set next m v) c (behind at body) (λ P. take_cut P body) (Ok tt)
                new-cut m m-is v e = subst (λ (i : ℕ). Advances bytes work (set next i v) c (behind at body) (λ P. take_cut P body) (Ok tt)) (sym m-is) (marked-new next v G e)
