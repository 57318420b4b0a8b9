-- What class building promises, and the laws of its parts.
use Rattle.std.specs.Prelude.{Ok, Err}
use Rattle.std.specs.Prelude.{◌≡◌, List, [], ℕ, ◌≤◌, ◌<◌, length, get_or, take, replicate}
use Rattle.std.proofs.Common.{sym, ap, subst, ◌∙◌, length-take-le}
use Rattle.std.proofs.Math.Option.{some}
use Rattle.definition.specs.Answer.{answer, padded, padded-none}
use Rattle.definition.specs.Calls.{no_figures, Left, refused, answered, cert_classes}
use Rattle.definition.specs.declared.Answer.{Answer}
use Rattle.definition.specs.declared.Figures.{Figures}
use Rattle.definition.specs.declared.Refusal.{Refusal}
use Rattle.theory.specs.Principal.{DemandThree}
use Rattle.theory.proofs.DemandThree.{demand_three}
use Rattle.buffer.specs.Zero.{filled, zeroed, zeroed-all}
use Rattle.pack_reader.specs.Sound.{bytes-all}
use Rattle.dock.specs.Comes.{Comes}
use Rattle.dock.specs.declared.classes.ClassesAnswer.{ClassesAnswer}

-- what a call returns and leaves, as the definition has it: no text
abbrev pub left_of : ClassesAnswer → List ℕ → List ℕ → List ℕ → List ℕ → Left
left_of r class pattern graph work = record {
  returned = record { code = r.code; place = r.place };
  figures = r.figures;
  text_length = 0;
  class = class;
  pattern = pattern;
  graph = graph;
  work = work;
  text = [];
}

-- zeros behind the words that are the answer
pub padded_is : (n : ℕ) (xs ys : List ℕ) (k : ℕ) → length xs ≡ k → take n xs ≡ ys → n ≤ length xs → zeroed n xs ≡ padded k ys
unfolding filled padded
padded_is n xs ys k l e h = let m : length ys ≡ n = ap length (sym e) ∙ length-take-le n xs h in rw (e, l, m)

-- zeros only
pub padded_zero : (xs : List ℕ) (k : ℕ) → length xs ≡ k → zeroed 0 xs ≡ padded k []
padded_zero xs k l = zeroed-all xs ∙ ap (λ (n : ℕ). replicate n 0) l ∙ sym (padded-none k)

-- what is left is what the definition says
module _ (bytes class pattern graph work class' pattern' graph' work' : List ℕ) (c-long : length class' ≡ length class) (p-long : length pattern' ≡ length pattern) (g-long : length graph' ≡ length graph) (w-long : length work' ≡ length work) where
  pub left-done : (n m : ℕ) (f : Figures) → Comes bytes class pattern graph work class' pattern' (Ok (n, m, f))
      → left_of (record { code = 0; place = 0; figures = f }) (zeroed n class') (zeroed m pattern') (zeroed 0 graph') (zeroed 0 work') ≡ cert_classes bytes (length class) (length pattern) (length graph) (length work)
  unfolding cert_classes answered answer
  left-done n m f C =
      rw (C.1, cert_classes, answered, padded_is n class' _ (length class) c-long C.2 C.3, padded_is m pattern' _ (length pattern) p-long C.4 C.5, padded_zero graph' (length graph) g-long, padded_zero work' (length work) w-long, C.6, padded-none 0)

  pub left-refused : (r : Refusal) (a : Answer) (g : Figures) → Comes bytes class pattern graph work class' pattern' (Err r) → a ≡ answer (some r) → g ≡ no_figures
      → left_of (record { code = a.code; place = a.place; figures = g }) (zeroed 0 class') (zeroed 0 pattern') (zeroed 0 graph') (zeroed 0 work') ≡ cert_classes bytes (length class) (length pattern) (length graph) (length work)
  unfolding cert_classes refused answer
  left-refused r a g C e h =
      rw (C, cert_classes, refused, padded_zero class' (length class) c-long, padded_zero pattern' (length pattern) p-long, padded_zero graph' (length graph) g-long, padded_zero work' (length work) w-long, h, e, padded-none 0)

  -- both clauses, of what stands there in the end
  module _ (class'' pattern'' graph'' work'' : List ℕ) (n m : ℕ) (zc : class'' ≡ zeroed n class') (zp : pattern'' ≡ zeroed m pattern') (zg : graph'' ≡ zeroed 0 graph') (zw : work'' ≡ zeroed 0 work') (bytes-are : (i : ℕ) → get_or bytes i 0 < 256) where
    promised : (r : ClassesAnswer) → left_of r (zeroed n class') (zeroed m pattern') (zeroed 0 graph') (zeroed 0 work') ≡ cert_classes bytes (length class) (length pattern) (length graph) (length work)
        → (left_of r class'' pattern'' graph'' work'' ≡ cert_classes bytes (length class) (length pattern) (length graph) (length work)) × DemandThree bytes (length class) (length pattern) (length graph) (length work) (left_of r class'' pattern'' graph'' work'')
    promised r e =
        let q : left_of r class'' pattern'' graph'' work'' ≡ cert_classes bytes (length class) (length pattern) (length graph) (length work) = rw (zc, zp, zg, zw) e in
        (q, subst (DemandThree bytes (length class) (length pattern) (length graph) (length work)) (sym q) (demand_three bytes (bytes-all bytes bytes-are) (length class) (length pattern) (length graph) (length work)))

    pub promised_done : (f : Figures) → Comes bytes class pattern graph work class' pattern' (Ok (n, m, f))
        → (left_of (record { code = 0; place = 0; figures = f }) class'' pattern'' graph'' work'' ≡ cert_classes bytes (length class) (length pattern) (length graph) (length work))
        × DemandThree bytes (length class) (length pattern) (length graph) (length work) (left_of (record { code = 0; place = 0; figures = f }) class'' pattern'' graph'' work'')
    promised_done f C = promised (record { code = 0; place = 0; figures = f }) (left-done n m f C)

    pub promised_refused : n ≡ 0 → m ≡ 0 → (r : Refusal) (a : Answer) (g : Figures) → Comes bytes class pattern graph work class' pattern' (Err r) → a ≡ answer (some r) → g ≡ no_figures
        → (left_of (record { code = a.code; place = a.place; figures = g }) class'' pattern'' graph'' work'' ≡ cert_classes bytes (length class) (length pattern) (length graph) (length work))
        × DemandThree bytes (length class) (length pattern) (length graph) (length work) (left_of (record { code = a.code; place = a.place; figures = g }) class'' pattern'' graph'' work'')
    promised_refused x y r a g C e h = promised (record { code = a.code; place = a.place; figures = g }) (rw (x, y) (left-refused r a g C e h))
