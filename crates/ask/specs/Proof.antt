-- The arguments behind the theorems about the questions, and the laws by which the calls are proved.
-- Answer: what a question gives, case by case. Count: counting threads. Status: the two tests of a status. Waits: the table's waits and lines 16 and
-- 19. InUse: the nodes past K are not in use. Chain: the list, and how it is written.
pub mod Answer
pub mod Count
pub mod Status
pub mod Waits
pub mod InUse
pub mod Chain
