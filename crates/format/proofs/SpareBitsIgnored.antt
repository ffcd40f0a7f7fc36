-- Bits of a reference past its last base are ignored: every call does the same whatever they hold. Assumes nothing.
pub mod Records
pub mod Reading
pub mod Writing
use Rattle.format.specs.SpareBits.{SpareBitsIgnored}
use Rattle.format.proofs.SpareBitsIgnored.Reading.{validated_block_same, decoded_same}
use Rattle.format.proofs.SpareBitsIgnored.Reading.{decoded_buffers_same}
use Rattle.format.proofs.SpareBitsIgnored.Reading.{validated_same}
use Rattle.format.proofs.SpareBitsIgnored.Writing.{encoded_same, encoded_buffer_same}

pub spare-bits_ignored : SpareBitsIgnored
spare-bits_ignored bases one other sizes same =
    record {
      validate_block = validated_block_same bases one other sizes same;
      decode = λ input buffers. (
        decoded_same bases one other sizes same input buffers,
        decoded_buffers_same bases one other sizes same input buffers,
      );
      validate = validated_same bases one other sizes same;
      encode = λ input out. (
        encoded_same bases one other sizes same input out,
        encoded_buffer_same bases one other sizes same input out,
      );
    }
