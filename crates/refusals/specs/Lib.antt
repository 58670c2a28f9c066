-- What stops a line's event and what it waits for, as the code asks for it by the line's row (Stops); and for each of the nineteen lines what its function
-- gives (Lines). Laws and Arms hold the laws by which the functions of the lines are proved.
pub mod Stops
pub mod Laws
pub mod Lines
pub mod Arms
