-- `fill` has no loop of its own: the library's has one. A wrong version that has one (must-fail/) is given here what
-- holds from turn to turn, and its measure, a line each:
-- 1
-- 2
-- 3
-- 4

-- 5
-- 6

-- 7
-- 8
