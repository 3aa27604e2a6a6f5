-- Lists of Code and Read calls with one more at the end. Assumes nothing.
use Prim.Native.Nat.{ℕ, suc, ◌+◌}
use native.Mathlib.Nat.{zero-add, suc-add}
use mathlib.Core.Path.{◌≡◌, refl, sym, ap, ◌∙◌}
use mathlib.Core.Logic.{◌⊎◌, inl, inr}
use mathlib.Core.Bool.{Bool, true, false, cond}
use mathlib.Core.List.{List, [], ◌∷◌, ◌++◌, map, append_assoc}
use lib.ListN.{take, drop}
use Rattle.settings.specs.Sizes.{frame_bytes}
use Rattle.channels.specs.declared.Scheme.{Scheme}
use Rattle.channels.specs.Fac.{fac_block}
use Rattle.channels.specs.Sdc.{sdc_block}
use Rattle.channels.specs.Msc.{msc_block}
use Rattle.superframe.specs.Call.{parts, fac_bytes}
use Rattle.superframe.specs.declared.State.{State}
use Rattle.superframe.specs.Code.{CodeCall, code_of}
use Rattle.superframe.specs.Read.{ReadCall, answer_frames, read_of}
use Rattle.superframe.specs.Runs.{reading, Bits, no_bits, bits_of, SuperFrame, codes, brought, sent, refusals, reads, read_count, handed, Feeds, unread_after, Fed, Accepts}
use Rattle.superframe.proofs.Calls.{code_keeps, read_keeps}
use Rattle.listener.specs.Following.{and_then}

-- A state and a memory, and those after a list of calls.
pub record At : Type 0 where
  pub state : State
  pub memory : List ℕ

unfoldable pub after_codes : State → List ℕ → List CodeCall → At
after_codes st me [] = record { state = st; memory = me }
after_codes st me (c ∷ cs) = after_codes (code_of st me c).done.state (code_of st me c).memory cs

unfoldable pub after_reads : State → List ℕ → List ReadCall → At
after_reads st me [] = record { state = st; memory = me }
after_reads st me (r ∷ rs) = after_reads (read_of st me r).reading.state (read_of st me r).memory rs

-- calls keep settings and table
pub codes_keep : (st : State) (me : List ℕ) (cs : List CodeCall) → (after_codes st me cs).state.scheme ≡ st.scheme
unfolding after_codes
codes_keep st me [] = refl
codes_keep st me (c ∷ cs) = codes_keep (code_of st me c).done.state (code_of st me c).memory cs ∙ code_keeps st me c

pub reads_keep : (st : State) (me : List ℕ) (rs : List ReadCall) → (after_reads st me rs).state.scheme ≡ st.scheme
unfolding after_reads
reads_keep st me [] = refl
reads_keep st me (r ∷ rs) = reads_keep (read_of st me r).reading.state (read_of st me r).memory rs ∙ read_keeps st me r

-- an accepted call in front of others, or a refused one
cond_more : {A : Type 0} (b : Bool) (x : A) (l k r : List A) → l ≡ k ++ r → cond b (x ∷ l) l ≡ cond b (x ∷ k) k ++ r
cond_more true x l k r e = ap (λ l. x ∷ l) e
cond_more false x l k r e = e

abbrev bringing : List (List ℕ) → List ℕ → List (List ℕ) → Bits → Bits
bringing f s m l = record { fac = f ++ l.fac; sdc = s ∷ l.sdc; frames = m ++ l.frames }

cond-bits : (b : Bool) (f : List (List ℕ)) (s : List ℕ) (m : List (List ℕ)) (l k r : Bits) → l ≡ and_then k r
    → cond b (bringing f s m l) l ≡ and_then (cond b (bringing f s m k) k) r
unfolding and_then
cond-bits true f s m l k r e = rw (e, append_assoc f k.fac r.fac, append_assoc m k.frames r.frames)
cond-bits false f s m l k r e = e

nothing_first : (b : Bits) → b ≡ and_then no_bits b
unfolding and_then no_bits
nothing_first b = refl

cond-count : (b : Bool) (l k n : ℕ) → l ≡ k + n → cond b (suc l) l ≡ cond b (suc k) k + n
cond-count true l k n e = ap suc e ∙ sym (suc-add k n)
cond-count false l k n e = e

module _ (c : CodeCall) where
  pub codes_more : (st : State) (me : List ℕ) (cs : List CodeCall) → let e = after_codes st me cs in
      after_codes st me (cs ++ (c ∷ [])) ≡ record { state = (code_of e.state e.memory c).done.state; memory = (code_of e.state e.memory c).memory }
  unfolding after_codes
  codes_more st me [] = refl
  codes_more st me (x ∷ cs) = codes_more (code_of st me x).done.state (code_of st me x).memory cs

  pub sent_more : (st : State) (me : List ℕ) (cs : List CodeCall)
      → sent st me (cs ++ (c ∷ [])) ≡ sent st me cs ++ sent (after_codes st me cs).state (after_codes st me cs).memory (c ∷ [])
  unfolding after_codes sent
  sent_more st me [] = refl
  sent_more st me (x ∷ cs) = cond_more (codes st me x) _ _ _ _ (sent_more (code_of st me x).done.state (code_of st me x).memory cs)

  pub brought_more : (st : State) (me : List ℕ) (cs : List CodeCall)
      → brought st me (cs ++ (c ∷ [])) ≡ and_then (brought st me cs) (brought (after_codes st me cs).state (after_codes st me cs).memory (c ∷ []))
  unfolding after_codes brought
  brought_more st me [] = nothing_first _
  brought_more st me (x ∷ cs) =
      cond-bits (codes st me x) (map (bits_of (fac_block st.scheme)) (parts fac_bytes x.fac)) (bits_of (sdc_block st.scheme) x.sdc)
      (map (bits_of (msc_block st.scheme)) (parts (frame_bytes st.scheme.settings) x.msc)) _ _ _
      (brought_more (code_of st me x).done.state (code_of st me x).memory cs)

  pub refusals_more : (st : State) (me : List ℕ) (cs : List CodeCall)
      → refusals st me (cs ++ (c ∷ [])) ≡ refusals st me cs ++ ((code_of (after_codes st me cs).state (after_codes st me cs).memory c).done.refusal ∷ [])
  unfolding after_codes refusals
  refusals_more st me [] = refl
  refusals_more st me (x ∷ cs) = ap (λ l. (code_of st me x).done.refusal ∷ l) (refusals_more (code_of st me x).done.state (code_of st me x).memory cs)

module _ (r : ReadCall) where
  pub reads_more : (st : State) (me : List ℕ) (rs : List ReadCall) → let e = after_reads st me rs in
      after_reads st me (rs ++ (r ∷ [])) ≡ record { state = (read_of e.state e.memory r).reading.state; memory = (read_of e.state e.memory r).memory }
  unfolding after_reads
  reads_more st me [] = refl
  reads_more st me (x ∷ rs) = reads_more (read_of st me x).reading.state (read_of st me x).memory rs

  pub handed_more : (st : State) (me : List ℕ) (rs : List ReadCall)
      → handed st me (rs ++ (r ∷ [])) ≡ and_then (handed st me rs) (handed (after_reads st me rs).state (after_reads st me rs).memory (r ∷ []))
  unfolding after_reads handed
  handed_more st me [] = nothing_first _
  handed_more st me (x ∷ rs) =
      let y = read_of st me x in
      cond-bits (reads reading st me x) (map (bits_of (fac_block st.scheme)) (parts fac_bytes y.fac)) (bits_of (sdc_block st.scheme) y.sdc)
      (map (bits_of (msc_block st.scheme)) (take (answer_frames y.reading.answer) (parts (frame_bytes st.scheme.settings) y.msc))) _ _ _
      (handed_more (read_of st me x).reading.state (read_of st me x).memory rs)

  pub count_more : (st : State) (me : List ℕ) (rs : List ReadCall)
      → read_count reading st me (rs ++ (r ∷ [])) ≡ read_count reading st me rs + read_count reading (after_reads st me rs).state (after_reads st me rs).memory (r ∷ [])
  unfolding after_reads read_count
  count_more st me [] = sym (zero-add _)
  count_more st me (x ∷ rs) = cond-count (reads reading st me x) _ _ _ (count_more (read_of st me x).reading.state (read_of st me x).memory rs)

-- The super frames not yet read after a list of calls.
unfoldable pub unread : List SuperFrame → State → List ℕ → List ReadCall → List SuperFrame
unread cells st me [] = cells
unread cells st me (r ∷ rs) = unread (unread_after reading cells st me r) (read_of st me r).reading.state (read_of st me r).memory rs

-- a reader that is fed cells is fed them where more follow
feeds_more : (s : Scheme) (cells more : List SuperFrame) (r : ReadCall) → Feeds reading s cells r → Feeds reading s (cells ++ more) r
feeds_more s cells more r f =
    record {
      frame = f.frame;
      rest = f.rest ++ more;
      unread = ap (λ l. l ++ more) f.unread;
      fac = f.fac;
      sdc = f.sdc;
      msc = f.msc;
      roomy = f.roomy;
    }

drop-one : (b : Bool) (cells more : List SuperFrame) (x : SuperFrame) (l : List SuperFrame) → cells ≡ x ∷ l → cond b (drop 1 (cells ++ more)) (cells ++ more) ≡ cond b (drop 1 cells) cells ++ more
drop-one true cells more x l e = rw e
drop-one false cells more x l e = refl

unread_more : (cells more : List SuperFrame) (st : State) (me : List ℕ) (r : ReadCall) → Feeds reading st.scheme cells r ⊎ (reads reading st me r ≡ false)
    → unread_after reading (cells ++ more) st me r ≡ unread_after reading cells st me r ++ more
unfolding unread_after
unread_more cells more st me r (inl f) = drop-one (reads reading st me r) cells more f.frame f.rest f.unread
unread_more cells more st me r (inr e) = rw e

feeds_or : (cells more : List SuperFrame) (st : State) (me : List ℕ) (r : ReadCall) → Feeds reading st.scheme cells r ⊎ (reads reading st me r ≡ false)
    → Feeds reading st.scheme (cells ++ more) r ⊎ (reads reading st me r ≡ false)
feeds_or cells more st me r (inl f) = inl (feeds_more st.scheme cells more r f)
feeds_or cells more st me r (inr e) = inr e

pub fed_more : (more cells : List SuperFrame) (st : State) (me : List ℕ) (rs : List ReadCall) → Fed reading cells st me rs → Fed reading (cells ++ more) st me rs
fed_more more cells st me [] f = f
fed_more more cells st me (r ∷ rs) f = (
  feeds_or cells more st me r f.0,
  rw (unread_more cells more st me r f.0) (fed_more more (unread_after reading cells st me r) (read_of st me r).reading.state (read_of st me r).memory rs f.1),
)

pub left_more : (more cells : List SuperFrame) (st : State) (me : List ℕ) (rs : List ReadCall) → Fed reading cells st me rs → unread (cells ++ more) st me rs ≡ unread cells st me rs ++ more
unfolding unread
left_more more cells st me [] f = refl
left_more more cells st me (r ∷ rs) f =
    ap (λ l. unread l (read_of st me r).reading.state (read_of st me r).memory rs) (unread_more cells more st me r f.0)
    ∙ left_more more (unread_after reading cells st me r) (read_of st me r).reading.state (read_of st me r).memory rs f.1

-- a call more that feeds what is left
module _ (r : ReadCall) where
  pub fed_last : (cells : List SuperFrame) (st : State) (me : List ℕ) (rs : List ReadCall) → Fed reading cells st me rs
      → Feeds reading (after_reads st me rs).state.scheme (unread cells st me rs) r → Fed reading cells st me (rs ++ (r ∷ []))
  unfolding after_reads unread
  fed_last cells st me [] f g = (inl g, tt {0})
  fed_last cells st me (x ∷ rs) f g = (f.0, fed_last (unread_after reading cells st me x) (read_of st me x).reading.state (read_of st me x).memory rs f.1 g)

  pub accepts_last : (cells : List SuperFrame) (st : State) (me : List ℕ) (rs : List ReadCall) → Accepts reading cells st me (rs ++ (r ∷ []))
      → Feeds reading (after_reads st me rs).state.scheme (unread cells st me rs) r → reads reading (after_reads st me rs).state (after_reads st me rs).memory r ≡ true
  unfolding after_reads unread
  accepts_last cells st me [] f g = f.0 g
  accepts_last cells st me (x ∷ rs) f g = accepts_last (unread_after reading cells st me x) (read_of st me x).reading.state (read_of st me x).memory rs f.1 g

  pub unread_last : (cells : List SuperFrame) (st : State) (me : List ℕ) (rs : List ReadCall)
      → unread cells st me (rs ++ (r ∷ [])) ≡ unread_after reading (unread cells st me rs) (after_reads st me rs).state (after_reads st me rs).memory r
  unfolding after_reads unread
  unread_last cells st me [] = refl
  unread_last cells st me (x ∷ rs) = unread_last (unread_after reading cells st me x) (read_of st me x).reading.state (read_of st me x).memory rs
