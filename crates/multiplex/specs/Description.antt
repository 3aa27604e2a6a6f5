-- A multiplex description. 02, S-8; 001 clause 6.4.3.1: of each stream the bytes of part A and of part B. Protection levels come from the settings.
use Rattle.std.specs.Prelude.{ℕ, ◌+◌, ◌*◌, ◌%◌, Bool, cond, ◌&&◌, List, get_or, drop, eqb, ltb, leb}
use Rattle.partlengths.specs.Formulas.{hierarchical}
use Rattle.settings.specs.declared.Settings.{Settings}
use Rattle.settings.specs.Lengths.{l1, l2, l_vspp}
use Rattle.frameparts.specs.declared.Share.{Share}
use Rattle.frameparts.specs.Streams.{shares_in, sums}
use Rattle.multiplex.specs.declared.Layout.{Layout}

-- Two numbers for each of one to four streams.
unfoldable pub described : ℕ → Bool
described numbers = eqb (numbers % 2) 0 && (ltb 0 numbers && leb numbers 8)

-- In MSC modes 1 and 2 stream 0 is the hierarchical frame and counts in neither part; its second number is its bytes, and its first is not looked at.
unfoldable pub uncounted : ℕ → ℕ
uncounted msc = cond (hierarchical msc) 2 0

unfoldable pub head_bytes : ℕ → List ℕ → ℕ
head_bytes msc d = cond (hierarchical msc) (get_or d 1 0) 0

-- The streams that count.
unfoldable pub streams_of : ℕ → List ℕ → List Share
streams_of msc d = shares_in (drop (uncounted msc) d)

-- What settings and description give a frame: the bits of the VSPP and of what comes after it, and the bytes of the hierarchical frame, of all parts A
-- and of all parts B.
unfoldable pub layout_of : Settings → List ℕ → Layout
layout_of s d =
    record {
      vspp = l_vspp s;
      rest = l1 s + l2 s;
      head = head_bytes s.msc d;
      a = (sums (streams_of s.msc d)).a;
      b = (sums (streams_of s.msc d)).b;
    }

-- 02, S-8: what 19 lets pass. The part A lengths add up to X, eight times all bytes of both parts is not above L1 + L2, and eight times the hierarchical
-- frame's bytes is not above L_VSPP.
unfoldable pub fits : Layout → ℕ → Bool
fits l x = eqb l.a x && (leb (8 * (l.a + l.b)) l.rest && leb (8 * l.head) l.vspp)

-- The bytes of all logical frames.
unfoldable pub stream_bytes : Layout → ℕ
stream_bytes l = l.head + (l.a + l.b)
