-- Demand 1 over the answers: a refused call changes nothing and counts nothing. Assumes nothing.
mod Calls
mod Stages
mod Given
use Rattle.format.specs.Demands.{Demand1}
use Calls.{decode-refuses, block-refuses, file-refuses, encode-refuses}
use Given.{given_exactly, given_first, no_room}

-- Whatever a call is given, if its number is not 0 then the number is one of its own, every count is 0, the read
-- index is 0 or a read's, and every lent buffer holds what it held before; and each number is given exactly when 01
-- says.
pub demand_1 : Demand1
demand_1 =
    record {
      decode = decode-refuses;
      validate_block = block-refuses;
      validate = file-refuses;
      encode = encode-refuses;
      given = given_exactly;
      given_first = given_first;
      of_room = no_room;
    }
