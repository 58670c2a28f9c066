-- The three kinds of record are lawful: reading and writing one record undo each other. A record is a list of single bytes and of numbers of four
-- bytes, so what is left to show is that four bytes and their number undo each other. Assumes nothing.
use Rattle.std.specs.Prelude.{true, List, ◌++◌, ◌≡◌, refl, ℕ, zero, suc, ◌+◌, ◌^◌, ◌≤◌, ◌<◌, get_or, length, take}
use Rattle.std.proofs.Common.{◌∙◌, arith, pow_mono, sym}
use Rattle.std.proofs.lemmas.Nat.{from_le_bytes-to_le_bytes_4, le_bytes_4}
use Rattle.std.specs.Int.{from_le_bytes, w32}
use Rattle.lock.specs.Judged.{shared_rule, thread_rule}
use Rattle.lock.specs.Valid.{SharedRange, ThreadRange, shared_valid}
use Rattle.lock.specs.declared.Shared.{Shared}
use Rattle.rows.specs.Round.{begun, listed, listed_front}
use Rattle.rows.specs.Rows.{Bytes, Lawful, letter_h, letter_l, letter_n, letter_t, marked}
use Rattle.saved.specs.Saved.{four_at, four_bytes, four_from, header, header_bytes, header_in, header_width}
use Rattle.saved.specs.Saved.{node_record, node_width, thread_record, thread_width}

-- ---- numbers of four bytes: what the library says of four bytes, the lowest first

-- The number whose four bytes stand in b from a place on is the library's.
four_lowest_first : (b : List ℕ) (at : ℕ) → from_le_bytes w32 (four_from b at) ≡ four_at b at
four_lowest_first b at = omega arith

-- The number of its four bytes is the number.
pub four_read : (n : ℕ) → n < 2 ^ 32 → four_at (four_bytes n) 0 ≡ n
four_read n h = sym (four_lowest_first (four_bytes n) 0) ∙ from_le_bytes-to_le_bytes_4 n h

-- Four bytes are those of their number, where they stand in b.
four_written : (b : List ℕ) (at : ℕ) → Bytes b → four_bytes (four_at b at) ≡ four_from b at
four_written b at bytes = le_bytes_4 (four_from b at) (four_at b at) refl each (sym (four_lowest_first b at))
  where
    each : (i : ℕ) → get_or (four_from b at) i 0 < 256
    each zero = bytes at
    each (suc zero) = bytes (at + 1)
    each (suc (suc zero)) = bytes (at + 2)
    each (suc (suc (suc zero))) = bytes (at + 3)
    each (suc (suc (suc (suc i)))) = omega arith

-- ---- the kinds. What is read from behind a mark is written again byte by byte: the mark, single bytes, numbers of four bytes.

-- The header is lawful.
pub header_lawful : Lawful header
header_lawful = record { wide = λ sh. refl; begins = λ sh r. refl; reads = back; writes = again }
  where
    back : (sh : Shared) (r : List ℕ) → shared_valid sh ≡ true → header_in (header_bytes sh ++ r) ≡ sh
    back sh r h =
        let range : SharedRange sh = shared_rule sh h in
        let fits : 2 ^ sh.nodes ≤ 2 ^ 32 = pow_mono range.nodes.to in
        rw (
          four_read sh.low.0 (omega arith),
          four_read sh.high.0 (omega arith),
          four_read sh.entered (omega arith),
          four_read sh.used (omega arith),
        )

    again : (r : List ℕ) → Bytes r → header_width ≤ length r → marked letter_l letter_h r ≡ true → header_bytes (header_in r) ≡ take header_width r
    again r bytes l m =
        (λ i. begun letter_l letter_h r m i ++ listed 5 2 r
        ++ four_written r 7 bytes i ++ four_written r 11 bytes i ++ four_written r 15 bytes i ++ four_written r 19 bytes i)
        ∙ listed_front header_width r l

-- Records of nodes are lawful.
pub node_lawful : (K : ℕ) → Lawful (node_record K)
node_lawful K = record {
  wide = λ v. refl;
  begins = λ v r. refl;
  reads = λ v r h. refl;
  writes = λ r bytes l m. (λ i. begun letter_l letter_n r m i ++ listed 2 2 r) ∙ listed_front node_width r l;
}

-- Records of threads are lawful.
pub thread_lawful : (K : ℕ) → Lawful (thread_record K)
thread_lawful K = record {
  wide = λ v. refl;
  begins = λ v r. refl;
  reads = λ v r h. let range : ThreadRange K v = thread_rule K v h in rw (four_read v.slot.0 (omega arith));
  writes = λ r bytes l m. (λ i. begun letter_l letter_t r m i ++ listed 5 2 r ++ four_written r 7 bytes i) ∙ listed_front thread_width r l;
}
